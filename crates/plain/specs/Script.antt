-- Scripts: the lines that the program reads and prints, from bytes to bytes.
use Rattle.std.specs.Prelude.{ℕ, suc, ◌+◌, ◌-◌, ◌*◌, true, false, cond, List, [], ◌∷◌, ◌++◌, length, Some, None, Ok, Err, codes, decimal, Option, Result, ◌==◌, nat_le}
use Rattle.std.specs.Option.{option_map}
use Rattle.plain.specs.Lists.{within, same, first}
use Rattle.plain.specs.Tokens.{digit}
use Rattle.plain.specs.Questions.{longest}
use Rattle.plain.specs.Faults.{line_number, line_layer}
use Rattle.plain.specs.Machine.{Machine, Call, Outcome, size, step, opening}
use Rattle.plain.specs.declared.answers.Kind.{Kind}
use Rattle.plain.specs.declared.answers.Kind.TheVariants as kind
use Rattle.plain.specs.declared.answers.Match.{Match}
use Rattle.plain.specs.declared.answers.Match.TheVariants.{Fits, Crossed}
use Rattle.plain.specs.declared.answers.Bracket.{Bracket}
use Rattle.plain.specs.declared.answers.Bracket.TheVariants.{Paired, Alone}
use Rattle.plain.specs.declared.answers.Token.{Token}
use Rattle.plain.specs.declared.answers.Mark.{Mark}
use Rattle.plain.specs.declared.answers.Answer.{Answer}
use Rattle.plain.specs.declared.answers.Answer.TheVariants as answer
use Rattle.plain.specs.declared.calls.Call.TheVariants as call
use Rattle.plain.specs.declared.calls.Request as requests
use Rattle.plain.specs.declared.calls.Request.TheVariants as request
use Rattle.plain.specs.declared.faults.Layer.{Layer}
use Rattle.plain.specs.declared.faults.Layer.TheVariants as layer
use Rattle.plain.specs.declared.faults.TextFault.{TextFault}
use Rattle.plain.specs.declared.faults.CallFault.TheVariants.{NotAllowed, Text}
use Rattle.plain.specs.declared.faults.LineFault.{LineFault}
use Rattle.plain.specs.declared.faults.LineFault.TheVariants as fault
use Rattle.plain.specs.declared.faults.ScriptFault.{ScriptFault}

-- The parts of a list between the bytes s: one part more than there are such bytes.
abbrev pub onto : ℕ → List (List ℕ) → List (List ℕ)
onto b [] = []
onto b (x ∷ xs) = (b ∷ x) ∷ xs

abbrev pub parted : ℕ → List ℕ → List (List ℕ)
parted s [] = [] ∷ []
parted s (b ∷ bs) = let rest = parted s bs in cond (b == s) ([] ∷ rest) (onto b rest)

-- The lines of the input: nothing after the last line feed is no line.
abbrev pub ended : List (List ℕ) → List (List ℕ)
ended [] = []
ended ([] ∷ []) = []
ended ((b ∷ bs) ∷ []) = (b ∷ bs) ∷ []
ended (x ∷ (y ∷ ys)) = x ∷ ended (y ∷ ys)

abbrev pub lines_of : List ℕ → List (List ℕ)
lines_of t = ended (parted 0x0a t)

-- A number of 1 to 10 digits, at most the limit.
abbrev pub digits_read : ℕ → List ℕ → Option ℕ
digits_read n [] = Some n
digits_read n (b ∷ bs) = let rest = digits_read (n * 10 + (b - 48)) bs in cond (digit b) rest None

abbrev pub up_to : ℕ → Option ℕ → Option ℕ
up_to limit None = None
up_to limit (Some n) = cond (nat_le n limit) (Some n) None

abbrev pub numeral : ℕ → List ℕ → Option ℕ
numeral limit f = cond (within 1 10 (length f)) (up_to limit (digits_read 0 f)) None

-- Bytes as pairs of hexadecimal digits, the letters in lower case.
abbrev pub nibble : ℕ → Option ℕ
nibble b = first ((digit b, Some (b - 48)) ∷ (within 97 102 b, Some (b - 87)) ∷ []) None

abbrev pub joined : Option ℕ → Option ℕ → Option (List ℕ) → Option (List ℕ)
joined None y r = None
joined (Some x) None r = None
joined (Some x) (Some y) None = None
joined (Some x) (Some y) (Some r) = Some ((x * 16 + y) ∷ r)

abbrev pub hexes : List ℕ → Option (List ℕ)
hexes [] = Some []
hexes (a ∷ []) = None
hexes (a ∷ (b ∷ bs)) = joined (nibble a) (nibble b) (hexes bs)

-- What a line asks for.
abbrev pub Request : Type 0
Request = requests.Request (List ℕ)

abbrev pub both : {A B C : Type 0} → (A → B → C) → Option A → Option B → Option C
both f None y = None
both f (Some x) None = None
both f (Some x) (Some y) = Some (f x y)

abbrev pub num : List ℕ → Option ℕ
num = numeral 4294967295

abbrev pub at_most : ℕ → Option (List ℕ) → Option (List ℕ)
at_most n None = None
at_most n (Some s) = cond (nat_le (length s) n) (Some s) None

-- a record of one field, of two and of three, by its first
abbrev pub plainly : List ℕ → Option Call
plainly f = first
    ((same f (codes "R"), Some call.Discard)
    ∷ (same f (codes "W"), Some call.Whole)
    ∷ (same f (codes "A"), Some (call.Audit 168))
    ∷ []) None

abbrev pub with_one : List ℕ → List ℕ → Option Call
with_one f x = first
    ((same f (codes "P"), option_map call.Paste (num x))
    ∷ (same f (codes "L"), option_map call.LineOf (num x))
    ∷ (same f (codes "S"), option_map call.StartOf (num x))
    ∷ (same f (codes "T"), option_map call.TokenAt (num x))
    ∷ (same f (codes "N"), option_map call.TokenNumber (num x))
    ∷ (same f (codes "B"), option_map call.BracketAt (num x))
    ∷ (same f (codes "F"), option_map call.MarkFrom (num x))
    ∷ []) None

abbrev pub with_two : List ℕ → List ℕ → List ℕ → Option Call
with_two f x y = first
    ((same f (codes "I"), both call.Insert (num x) (hexes y))
    ∷ (same f (codes "D"), both call.Delete (num x) (num y))
    ∷ (same f (codes "C"), both call.Cut (num x) (num y))
    ∷ (same f (codes "M"), both call.Mark (num x) (numeral 65535 y))
    ∷ (same f (codes "G"), both call.Range (num x) (num y))
    ∷ []) None

abbrev pub read_fields : List (List ℕ) → Option Request
read_fields [] = None
read_fields (f ∷ []) = option_map request.Call (plainly f)
read_fields (f ∷ (x ∷ [])) =
    cond (same f (codes "O")) (option_map request.Open (at_most 2048 (hexes x))) (option_map request.Call (with_one f x))
read_fields (f ∷ (x ∷ (y ∷ []))) = option_map request.Call (with_two f x y)
read_fields (f ∷ (x ∷ (y ∷ (z ∷ zs)))) = None

abbrev pub request_of_line : List ℕ → Option Request
request_of_line l = elim (nat_le (length l) 4200) [ true ↦ read_fields (parted 0x09 l) | false ↦ None ]

-- What is printed: fields with tabs between, and a line feed.
abbrev pub printed : List (List ℕ) → List ℕ
printed [] = 0x0a ∷ []
printed (f ∷ []) = f ++ (0x0a ∷ [])
printed (f ∷ (g ∷ gs)) = f ++ (0x09 ∷ printed (g ∷ gs))

abbrev pub kind_name_of : Kind → List ℕ
kind_name_of kind.Start = codes "start"
kind_name_of kind.Blank = codes "blank"
kind_name_of kind.Line = codes "line"
kind_name_of kind.Word = codes "word"
kind_name_of kind.Number = codes "number"
kind_name_of kind.Sign = codes "sign"
kind_name_of kind.Open = codes "open"
kind_name_of kind.Close = codes "close"
kind_name_of kind.Unfinished = codes "unfinished"
kind_name_of kind.String = codes "string"
kind_name_of kind.Comment = codes "comment"
kind_name_of kind.Bad = codes "bad"
kind_name_of kind.Key = codes "key"

abbrev pub layer_name_of : Layer → List ℕ
layer_name_of layer.Store = codes "store"
layer_name_of layer.Text = codes "text"
layer_name_of layer.Script = codes "script"

abbrev pub match_name_of : Match → List ℕ
match_name_of Fits = codes "fits"
match_name_of Crossed = codes "crossed"

abbrev pub or_none : {A : Type 0} → (A → List (List ℕ)) → Option A → List (List ℕ)
or_none f None = codes "none" ∷ []
or_none f (Some x) = f x

abbrev pub token_fields : Token → List (List ℕ)
token_fields x = decimal x.start ∷ decimal x.end ∷ decimal x.number ∷ kind_name_of x.kind ∷ []

abbrev pub bracket_fields : Bracket → List (List ℕ)
bracket_fields (Paired p f) = decimal p ∷ match_name_of f ∷ []
bracket_fields Alone = codes "alone" ∷ []

abbrev pub mark_fields : Mark → List (List ℕ)
mark_fields m = decimal m.offset ∷ decimal m.label ∷ []

-- the fields of an answer, when the text has n bytes; the added measure's value is a number here
abbrev pub answer_fields : ℕ → Answer ℕ → List (List ℕ)
answer_fields n answer.Done = codes "ok" ∷ decimal n ∷ []
answer_fields n (answer.Line x) = decimal x.line ∷ decimal x.column ∷ []
answer_fields n (answer.Start o) = or_none (λ x. decimal x ∷ []) o
answer_fields n (answer.Token o) = or_none token_fields o
answer_fields n (answer.Bracket o) = or_none bracket_fields o
answer_fields n (answer.Mark o) = or_none mark_fields o
answer_fields n (answer.Range v) = decimal v ∷ []
answer_fields n (answer.Whole x) =
    decimal x.bytes ∷ decimal x.lines ∷ decimal x.tokens ∷ decimal x.strays ∷ decimal x.unmet ∷ []
answer_fields n answer.Sound = codes "sound" ∷ []

abbrev pub fault_fields : ScriptFault → List (List ℕ)
fault_fields x =
    codes "refused" ∷ decimal (line_number x.fault) ∷ layer_name_of (line_layer x.fault) ∷ decimal x.line ∷ []

abbrev pub refused_at : ℕ → LineFault → List (List ℕ)
refused_at i f = fault_fields (record { line = i; fault = f })

abbrev pub outcome_fields : ℕ → ℕ → Outcome ℕ → List (List ℕ)
outcome_fields i n (Ok x) = answer_fields n x
outcome_fields i n (Err f) = refused_at i (fault.Call f)

-- Line i: the machine after it, none as long as no text is open, and what is printed.
abbrev pub State : Type 0
State = Option Machine

abbrev pub opens : ℕ → Result Machine TextFault → State × List (List ℕ)
opens i (Ok m) = (Some m, answer_fields (size m) answer.Done)
opens i (Err f) = (None, refused_at i (fault.Call (Text f)))

abbrev pub line_step : ℕ → State → Option Request → State × List (List ℕ)
line_step i m None = (m, refused_at i fault.Unreadable)
line_step i None (Some (request.Open s)) = opens i (opening s (length s + 4096) 168 168)
line_step i None (Some (request.Call c)) = (None, refused_at i (fault.Call NotAllowed))
line_step i (Some m) (Some (request.Open s)) = (Some m, refused_at i (fault.Call NotAllowed))
line_step i (Some m) (Some (request.Call c)) =
    let x = step longest m c in (Some x.0, outcome_fields i (size x.0) x.1)

abbrev pub lines_from : ℕ → State → List (List ℕ) → List ℕ
lines_from i m [] = []
lines_from i m (l ∷ ls) = let x = line_step i m (request_of_line l) in printed x.1 ++ lines_from (suc i) x.0 ls

-- the whole output for the whole input
abbrev pub panel : List ℕ → List ℕ
panel input = lines_from 1 None (lines_of input)

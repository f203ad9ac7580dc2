-- Worked examples: small texts, the calls made on them, and all that the plain machine shows. One computed table.
use Rattle.std.specs.Prelude.{◌≡◌, ℕ, ◌+◌, List, [], ◌∷◌, ◌++◌, map, length, replicate, Some, None, Ok, Err, codes, ◌==◌}
use Rattle.plain.specs.Lists.{first}
use Rattle.plain.specs.Questions.{longest}
use Rattle.plain.specs.Machine.{Call, Outcome, opening, run}
use Rattle.plain.specs.Script.{panel}
use Rattle.plain.specs.declared.answers.Kind.{Kind}
use Rattle.plain.specs.declared.answers.Kind.TheVariants as kind
use Rattle.plain.specs.declared.answers.Match.TheVariants.{Crossed}
use Rattle.plain.specs.declared.answers.Bracket.TheVariants.{Paired, Alone}
use Rattle.plain.specs.declared.answers.Answer.TheVariants as answer
use Rattle.plain.specs.declared.calls.Call.TheVariants as call
use Rattle.plain.specs.declared.faults.TextFault.{TextFault}
use Rattle.plain.specs.declared.faults.TextFault.TheVariants as fault
use Rattle.plain.specs.declared.faults.CallFault.TheVariants.{Text}

-- what a run shows: the outcomes, how many pieces there are at the end, and the offsets of the marks
pub record Seen : Type 0 where
  pub gave : List (Outcome ℕ)
  pub pieces : ℕ
  pub marks : List ℕ

-- a text opened with so many slots in each slice and 64 spare bytes, the calls made, and what is to be seen
pub record Example : Type 0 where
  pub bytes : List ℕ
  pub slots : ℕ
  pub calls : List Call
  pub promised : Seen

abbrev pub seen : List (Outcome ℕ) → ℕ → List ℕ → Seen
seen o p h = record { gave = o; pieces = p; marks = h }

abbrev pub example : List ℕ → ℕ → List Call → Seen → Example
example b s c e = record { bytes = b; slots = s; calls = c; promised = e }

abbrev pub refused : TextFault → Outcome ℕ
refused f = Err (Text f)

abbrev pub played : Example → Seen
played e = elim (opening e.bytes (length e.bytes + 64) e.slots e.slots) [
  | Err f ↦ seen (refused f ∷ []) 0 []
  | Ok m ↦ let end = run longest m e.calls in
      seen end.1 (length end.0.pieces) (map (λ x. x.offset) end.0.marks)
]

abbrev pub done : Outcome ℕ
done = Ok answer.Done

abbrev pub line : ℕ → ℕ → Outcome ℕ
line k c = Ok (answer.Line (record { line = k; column = c }))

abbrev pub token : ℕ → ℕ → ℕ → Kind → Outcome ℕ
token a b k n = Ok (answer.Token (Some (record { start = a; end = b; number = k; kind = n })))

abbrev pub whole : ℕ → ℕ → ℕ → ℕ → ℕ → Outcome ℕ
whole n l t s u = Ok (answer.Whole (record { bytes = n; lines = l; tokens = t; strays = s; unmet = u }))

abbrev pub alone : Outcome ℕ
alone = Ok (answer.Bracket (Some Alone))

abbrev pub examples : List Example
examples =
    -- the empty text
    example [] 168
    (call.Whole ∷ call.LineOf 0 ∷ call.TokenAt 0 ∷ [])
    (seen (whole 0 1 0 0 0 ∷ line 1 0 ∷ refused fault.Offset ∷ []) 0 [])
    -- a comment, a key and the start of a line; a quote typed at the top makes the first line one unfinished string
    ∷ example (codes "wait(5) # go" ++ (0x0a ∷ codes "lock")) 168
    (call.TokenAt 9 ∷ call.TokenAt 13 ∷ call.StartOf 2 ∷ call.Insert 0 (0x22 ∷ []) ∷ call.Whole ∷ call.TokenAt 6
    ∷ call.BracketAt 5 ∷ [])
    (seen (token 8 12 6 kind.Comment ∷ token 13 17 8 kind.Key ∷ Ok (answer.Start (Some 13)) ∷ done ∷ whole 18 2 3 0 0
    ∷ token 0 13 1 kind.Unfinished ∷ Ok (answer.Bracket None) ∷ []) 2 [])
    -- crossed brackets
    ∷ example (codes "a(]") 168
    (call.BracketAt 1 ∷ [])
    (seen (Ok (answer.Bracket (Some (Paired 2 Crossed))) ∷ []) 1 [])
    -- lone brackets
    ∷ example (codes ")(") 168
    (call.BracketAt 0 ∷ call.BracketAt 1 ∷ call.Whole ∷ [])
    (seen (alone ∷ alone ∷ whole 2 1 2 1 1 ∷ []) 1 [])
    -- too few slots; the least number, which has room for one piece; one byte too many
    ∷ example [] 129 [] (seen (refused fault.Slots ∷ []) 0 [])
    ∷ example (replicate 256 97) 130 [] (seen [] 1 [])
    ∷ example (replicate 257 97) 130 [] (seen (refused fault.Pieces ∷ []) 0 [])
    -- an escaped quote inside a string
    ∷ example (0x22 ∷ 0x61 ∷ 0x5c ∷ 0x22 ∷ 0x62 ∷ 0x22 ∷ []) 168
    (call.TokenAt 0 ∷ call.Whole ∷ [])
    (seen (token 0 6 1 kind.String ∷ whole 6 1 1 0 0 ∷ []) 1 [])
    -- room for three pieces
    ∷ example (replicate 256 97) 134
    (call.Insert 128 (98 ∷ []) ∷ [])
    (seen (done ∷ []) 3 [])
    ∷ example (replicate 256 97) 134
    (call.Insert 128 (98 ∷ []) ∷ call.Insert 10 (98 ∷ []) ∷ call.Delete 0 128 ∷ call.Insert 0 (98 ∷ []) ∷ [])
    (seen (done ∷ refused fault.Pieces ∷ done ∷ done ∷ []) 3 [])
    -- marks move
    ∷ example (codes "abcdefghij") 168
    (call.Mark 3 0 ∷ call.Mark 5 0 ∷ call.Mark 9 0 ∷ call.Insert 5 (codes "xy") ∷ [])
    (seen (done ∷ done ∷ done ∷ done ∷ []) 3 (3 ∷ 7 ∷ 11 ∷ []))
    ∷ example (codes "abcdefghij") 168
    (call.Mark 3 0 ∷ call.Mark 5 0 ∷ call.Mark 9 0 ∷ call.Insert 5 (codes "xy") ∷ call.Delete 3 7 ∷ [])
    (seen (done ∷ done ∷ done ∷ done ∷ done ∷ []) 2 (3 ∷ 3 ∷ 7 ∷ []))
    -- the longest line of a whole text, and of a part
    ∷ example (codes "ab" ++ (0x0a ∷ codes "cde" ++ (0x0a ∷ codes "f"))) 168
    (call.Range 0 8 ∷ call.Range 1 5 ∷ [])
    (seen (Ok (answer.Range 3) ∷ Ok (answer.Range 2) ∷ []) 1 [])
    ∷ []

-- a script in and out, with > for a tab and ; for the end of a line
abbrev pub written : List ℕ → List ℕ
written [] = []
written (b ∷ bs) = first (((b == 0x3e), 0x09) ∷ ((b == 0x3b), 0x0a) ∷ []) b ∷ written bs

pub record Examples : Type 0 where
  pub table : map played examples ≡ map (λ e. e.promised) examples
  pub script :
      panel (written (codes "O>77616974283529;I>0>22;T>0;W;"))
      ≡ written (codes "ok>7;ok>8;0>8>1>unfinished;8>1>1>0>0;")

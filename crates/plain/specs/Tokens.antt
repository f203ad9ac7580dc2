-- The tokens of a text, read from left to right, one byte at a time.
use Rattle.std.specs.Prelude.{ℕ, suc, Bool, true, false, cond, ◌&&◌, ◌||◌, List, [], ◌∷◌, codes, ◌==◌, slice_index_or}
use Rattle.plain.specs.Lists.{within, among, same, first, slice}
use Rattle.plain.specs.declared.answers.Kind.{Kind}
use Rattle.plain.specs.declared.answers.Kind.TheVariants.{
  Start,
  Blank,
  Line,
  Word,
  Number,
  Sign,
  Open,
  Close,
  Unfinished,
  String,
  Comment,
  Bad,
  Key,
}
use Rattle.plain.specs.declared.answers.Token.{Token}

-- The classes of bytes. A byte that is in none of them is like an escape outside a string.
abbrev pub letter : ℕ → Bool
letter b = within 0x41 0x5a b || within 0x61 0x7a b || b == 0x5f

abbrev pub digit : ℕ → Bool
digit b = within 0x30 0x39 b

abbrev pub white : ℕ → Bool
white b = among (0x20 ∷ 0x09 ∷ 0x0d ∷ []) b

abbrev pub feed : ℕ → Bool
feed b = b == 0x0a

abbrev pub quote : ℕ → Bool
quote b = b == 0x22

abbrev pub escape : ℕ → Bool
escape b = b == 0x5c

abbrev pub hash : ℕ → Bool
hash b = b == 0x23

abbrev pub left : ℕ → Bool
left b = among (0x28 ∷ 0x5b ∷ 0x7b ∷ []) b

abbrev pub right : ℕ → Bool
right b = among (0x29 ∷ 0x5d ∷ 0x7d ∷ []) b

abbrev pub symbol : ℕ → Bool
symbol b = among (0x21 ∷ 0x26 ∷ 0x7c ∷ []) b || within 0x2a 0x2f b || within 0x3a 0x3e b

-- The states: 0 start, 1 blank, 2 line, 3 word, 4 number, 5 sign, 6 open, 7 close, 8 in a string,
-- 9 after an escape in a string, 10 a string that is closed, 11 comment, 12 bad.

-- where a byte leads that begins a token
abbrev pub begun : ℕ → ℕ
begun b = first
    ((letter b, 3) ∷ (digit b, 4) ∷ (white b, 1) ∷ (feed b, 2) ∷ (quote b, 8) ∷ (hash b, 11)
    ∷ (left b, 6) ∷ (right b, 7) ∷ (symbol b, 5) ∷ []) 12

-- whether a byte goes on with the blank, the word or the number before it
abbrev pub stays : ℕ → ℕ → Bool
stays s b = first (((s == 1), white b) ∷ ((s == 3), letter b || digit b) ∷ ((s == 4), digit b) ∷ []) false

-- the state after a byte, and whether the byte begins a token
abbrev pub step : ℕ → ℕ → ℕ × Bool
step s b = first
    ((among (8 ∷ 9 ∷ 11 ∷ []) s && feed b, (2, true))
    ∷ (s == 8 && quote b, (10, false))
    ∷ (s == 8 && escape b, (9, false))
    ∷ (s == 8 || (s == 9), (8, false))
    ∷ ((s == 11), (11, false))
    ∷ (stays s b, (s, false))
    ∷ []) (begun b, true)

-- the state after all bytes of a list, read from state s
abbrev pub end_state : ℕ → List ℕ → ℕ
end_state s [] = s
end_state s (b ∷ bs) = end_state (step s b).0 bs

-- A token's kind is the name of the state after its last byte; but some words are keys.
abbrev pub name_of : ℕ → Kind
name_of s = slice_index_or
    (Start ∷ Blank ∷ Line ∷ Word ∷ Number ∷ Sign ∷ Open ∷ Close ∷ Unfinished ∷ Unfinished
    ∷ String ∷ Comment ∷ Bad ∷ []) s Bad

abbrev pub is_key : List ℕ → Bool
is_key w = same w (codes "open") || same w (codes "lock") || same w (codes "wait")
    || same w (codes "until") || same w (codes "if") || same w (codes "end")

abbrev pub kind_of : ℕ → List ℕ → Kind
kind_of s w = elim (s == 3) [ true ↦ cond (is_key w) Key Word | false ↦ name_of s ]

-- the token of the text t from a to b, number k, that ends in state s
abbrev pub token_of : List ℕ → ℕ → ℕ → ℕ → ℕ → Token
token_of t a b k s = record { start = a; end = b; number = k; kind = kind_of s (slice t a b) }

-- the tokens of t from the open one on: it began at a and has number k; the state at offset i is s
abbrev pub tokens_from : List ℕ → ℕ → ℕ → ℕ → ℕ → List ℕ → List Token
tokens_from t s i a k [] = token_of t a i k s ∷ []
tokens_from t s i a k (b ∷ bs) = elim (step s b).1 [
  | true ↦ token_of t a i k s ∷ tokens_from t (step s b).0 (suc i) i (suc k) bs
  | false ↦ tokens_from t (step s b).0 (suc i) a k bs
]

-- Reading starts in state 0. The first byte begins the first token.
abbrev pub tokens : List ℕ → List Token
tokens [] = []
tokens (b ∷ bs) = tokens_from (b ∷ bs) (step 0 b).0 1 0 1 bs

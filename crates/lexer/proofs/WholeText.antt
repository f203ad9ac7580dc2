-- What row 0 says of a whole text.
use Rattle.std.proofs.Common.{◌≡◌, ℕ, suc, ◌+◌, ◌≤◌, min, Bool, true, false, cond, List, [], ◌∷◌, length, sym, refl, ap, arith}
use Rattle.plain.specs.Lists.{count}
use Rattle.plain.specs.Tokens.{feed, step, tokens, tokens_from}
use Rattle.plain.specs.Questions.{summary}
use Rattle.plain.specs.declared.answers.Token.{Token}
use Rattle.plain.specs.declared.answers.Summary.{Summary}
use Rattle.measures.specs.Law.{heaviest}
use Rattle.measures.specs.Totals.{totals}
use Rattle.measures.specs.declared.totals.Totals.{Totals}
use Rattle.measures.specs.Counts.{count_length}
use Rattle.lexer.specs.Reading.{beginnings, read_from, Whole}
use Rattle.lexer.specs.States.{end_read}
use Rattle.lexer.specs.Summing.{summed}
use Rattle.lexer.specs.declared.tokens.TokenRow.{TokenRow}

tokens_length : (t : List ℕ) (s i a k : ℕ) (bs : List ℕ) → length (tokens_from t s i a k bs) ≡ 1 + beginnings s bs
tokens_length t s i a k [] = refl
tokens_length t s i a k (b ∷ bs) =
    by (step s b).1 (beginnings (step s b).0 bs) _ _ _ (tokens_length t (step s b).0 (suc i) i (suc k) bs) (tokens_length t (step s b).0 (suc i) a k bs)
  where
    by : (f : Bool) (n : ℕ) (x : Token) (xs ys : List Token) → length xs ≡ 1 + n → length ys ≡ 1 + n → length {A = Token} (elim f [ true ↦ x ∷ xs | false ↦ ys ]) ≡ 1 + (cond f 1 0 + n)
    by true n x xs ys g h = omega arith
    by false n x xs ys g h = omega arith

all_tokens : (bs : List ℕ) → beginnings 0 bs ≡ length (tokens bs)
all_tokens [] = refl
all_tokens (b ∷ bs) = sym (tokens_length (b ∷ bs) (step 0 b).0 1 0 1 bs)

pub whole_read : (bs : List ℕ) → Whole bs (read_from 0 bs)
unfolding read_from
whole_read bs = record { end = end_read 0 bs (omega arith); begun = all_tokens bs; stray = refl; left = refl }

abbrev sums : ℕ → ℕ → ℕ → ℕ → ℕ → Summary
sums n l t s u = record { bytes = n; lines = l; tokens = t; strays = s; unmet = u }

sums_eq : {n n' l l' t t' s s' u u' : ℕ} → n ≡ n' → l ≡ l' → t ≡ t' → s ≡ s' → u ≡ u' → sums n l t s u ≡ sums n' l' t' s' u'
sums_eq a b c d e = cc

pub summed_by : (v : Totals) (r : TokenRow) (l : ℕ) → l ≡ min (v.feeds + 1) 4294967295 → sums v.bytes l r.tokens r.strays r.unmet ≡ summed v r
summed_by v r l e = ap (λ n. sums v.bytes n r.tokens r.strays r.unmet) e

pub summed_whole : (v : Totals) (r : TokenRow) (bs : List ℕ) → length bs ≤ heaviest → v ≡ totals bs → Whole bs r → summed v r ≡ summary bs
summed_whole v r bs light e h =
    let b : v.feeds ≡ count feed bs = ap (λ (u : Totals). u.feeds) e in
    let c : min (v.feeds + 1) 4294967295 ≡ (summary bs).lines = omega (arith, count_length feed bs) in
    sums_eq (ap (λ (u : Totals). u.bytes) e) c h.begun h.stray h.left

-- Lists that grow at the end, and what is left of them where there is no memory.
use Rattle.std.proofs.Common.{◌≡◌, ℕ, ◌<◌, ◌≤◌, true, ◌⊎◌, List, ◌++◌, length, take, is_err, Ok, Err, Result, sym, refl, ap, ◌∙◌, inl, inr, arith}
use Rattle.std.proofs.lemmas.List.{take_at, take-take, take_all}
use Rattle.std.proofs.lemmas.Bool.{cases_lt}
use Rattle.lines.specs.Columns.{Appends}

-- `old` is the beginning of `new`
abbrev pub Kept : List ℕ → List ℕ → Type 0
Kept old new = take (length old) new ≡ old

pub kept_same : (old new : List ℕ) → new ≡ old → Kept old new
kept_same old new e = ap (take (length old)) e ∙ take_all (length old) old (omega arith)

pub kept_more : (old more new : List ℕ) → new ≡ old ++ more → Kept old new
kept_more old more new e = ap (take (length old)) e ∙ take_at old more (length old) refl

pub kept_then : (old mid new : List ℕ) → Kept old mid → Kept mid new → Kept old new
kept_then old mid new h k =
    let l : length old ≤ length mid = long (cases_lt (length mid) (length old)) in
    sym (take-take (length old) (length mid) new l) ∙ ap (take (length old)) k ∙ h
  where
    long : (length mid < length old) ⊎ (length old ≤ length mid) → length old ≤ length mid
    long (inl s) = let n = ap length (sym (take_all (length old) mid (omega arith)) ∙ h) in omega arith
    long (inr l) = l

module _ {T E : Type 0} (r : Result T E) (old more new : List ℕ) where
  pub failed : is_err r ≡ true → Kept old new → Appends r old more new
  failed = go r
    where
      go : (r : Result T E) → is_err r ≡ true → Kept old new → Appends r old more new
      go (Ok x) e k = let z : ◌≡◌ {A = ℕ} 0 1 = cc in absurd (omega arith)
      go (Err x) e k = k

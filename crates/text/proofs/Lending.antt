-- The watched slots of a slice, lent and given back.
use Rattle.std.proofs.Common.{◌≡◌, ℕ, ◌<◌, ◌≤◌, min, List, [], ◌++◌, length, take, drop, sym, ap, ◌∙◌, ⊎_elim, append-nil, arith, length-append, length-drop, take-append-drop, length-take, take_all, take_at, drop_at}
use Rattle.std.proofs.lemmas.List.{nil_from_length}
use Rattle.std.proofs.lemmas.Bool.{cases_lt}
use Rattle.text.specs.Texts.{watched_of}

module _ {X : Type 0} (rs : List X) (w : ℕ) (is : w ≡ min (length rs) 8316) where
  -- a slice of no more than the watched slots
  short : length rs < 8316 → (w ≡ length rs)
  short lt = omega arith

  long : 8316 ≤ length rs → w ≡ 8316
  long le = omega arith

  drop_none : (n : ℕ) → length rs ≤ n → drop n rs ≡ []
  drop_none n h = nil_from_length (drop n rs) (length-drop n rs ∙ omega arith)

  pub lent : take w rs ≡ watched_of rs
  lent = ⊎_elim
      (λ (lt : length rs < 8316). take_all w rs (omega arith) ∙ sym (take_all 8316 rs (omega arith)))
      (λ (le : 8316 ≤ length rs). ap (λ n. take n rs) (long le))
      (cases_lt (length rs) 8316)

  module _ (ys : List X) (len : length ys ≡ length (take w rs)) where
    size : length ys ≡ min (length rs) 8316
    size = omega (arith, length-take w rs)

    pub back : watched_of (ys ++ drop w rs) ≡ ys
    back = ⊎_elim
        (λ (lt : length rs < 8316).
        ap (λ zs. watched_of (ys ++ zs)) (drop_none w (omega arith)) ∙ ap watched_of (append-nil ys) ∙ take_all 8316 ys (omega (arith, size)))
        (λ (le : 8316 ≤ length rs). take_at ys (drop w rs) 8316 (omega (arith, size)))
        (cases_lt (length rs) 8316)

    pub beyond : drop 8316 (ys ++ drop w rs) ≡ drop 8316 rs
    beyond = ⊎_elim
        (λ (lt : length rs < 8316).
        nil_from_length (drop 8316 (ys ++ drop w rs)) (omega (arith, length-drop 8316 (ys ++ drop w rs), length-append ys (drop w rs), length-drop w rs, size))
        ∙ sym (drop_none 8316 (omega arith)))
        (λ (le : 8316 ≤ length rs). drop_at ys (drop w rs) 8316 (omega (arith, size)) ∙ ap (λ n. drop n rs) (long le))
        (cases_lt (length rs) 8316)

    -- given back as they were
    pub same : ys ≡ take w rs → ys ++ drop w rs ≡ rs
    same e = ap (λ zs. zs ++ drop w rs) e ∙ take-append-drop w rs

-- One move of slots and then another.
use Rattle.std.proofs.Common.{◌≡◌, ℕ, ◌+◌, List, [], ◌++◌, get_or, Result, refl, inr, arith}
use Rattle.slots.specs.Ghost.{occ_list, none, head_of, Chain, Calm, Off}
use Rattle.slots.specs.Words.{Link}
use Rattle.slots.specs.declared.records.Record.{Record}
use Rattle.slots.specs.declared.records.Unsound.{Unsound}
use Rattle.slots.proofs.Frames.{occ_list_append, calm_then, off_refl, off_then, off_more}
use Rattle.release.specs.Post.{Back}
use Rattle.excisions.specs.Moves.{Moved}

module _ {R V : Type 0} where
  pub moved_of : {rs rs' : List (Record R V)} {f' : Link} {τ : ℕ → ℕ} (α β : ℕ → ℕ) (fs fs' js : List ℕ) → head_of fs' ≡ f' → Chain rs' fs' → ((i : ℕ) → β i + occ_list fs' i ≡ τ i) → Off rs rs' τ
      → ((i : ℕ) → occ_list js i ≡ 0 → Calm (get_or rs i none) (get_or rs' i none)) → ((i : ℕ) → τ i ≡ α i + occ_list fs i) → Moved rs rs' f' α β fs fs' js
  moved_of α β fs fs' js first chain kept off fresh is = record {
    first = first;
    chain = chain;
    kept = λ i. omega (arith, kept i, is i);
    frame = off_more (λ i. α i + occ_list fs i) (λ i z. omega (arith, is i)) off;
    fresh = fresh;
  }

  pub moved_nothing : {rs : List (Record R V)} {f : Link} (α : ℕ → ℕ) (fs : List ℕ) → head_of fs ≡ f → Chain rs fs → Moved rs rs f α α fs fs []
  moved_nothing α fs first chain = record { first = first; chain = chain; kept = λ i. refl; frame = off_refl; fresh = λ i z. inr refl }

  -- the slots that σ counts stay in the second move
  pub moved_then : {rs rs₁ rs₂ : List (Record R V)} {f₁ f₂ : Link} {α β α₂ β₂ : ℕ → ℕ} {fs fs₁ fs₂ js js₂ : List ℕ} (σ β' : ℕ → ℕ)
      → Moved rs rs₁ f₁ α β fs fs₁ js → ((i : ℕ) → β i ≡ α₂ i + σ i) → Moved rs₁ rs₂ f₂ α₂ β₂ fs₁ fs₂ js₂ → ((i : ℕ) → β' i ≡ β₂ i + σ i) → Moved rs rs₂ f₂ α β' fs fs₂ (js ++ js₂)
  moved_then {α = α} {fs = fs} {js = js} {js₂ = js₂} σ β' A into B out = record {
    first = B.first;
    chain = B.chain;
    kept = λ i. omega (arith, A.kept i, B.kept i, into i, out i);
    frame = off_more (λ i. α i + occ_list fs i) (λ i z. omega (arith, A.kept i, into i)) (off_then A.frame B.frame);
    fresh = λ i z. let e = occ_list_append js js₂ i in calm_then (A.fresh i (omega arith)) (B.fresh i (omega arith));
  }

  -- other slots stay
  pub moved_aside : {rs rs' : List (Record R V)} {f' : Link} {α β : ℕ → ℕ} {fs fs' js : List ℕ} (σ α' β' : ℕ → ℕ)
      → Moved rs rs' f' α β fs fs' js → ((i : ℕ) → α' i ≡ α i + σ i) → ((i : ℕ) → β' i ≡ β i + σ i) → Moved rs rs' f' α' β' fs fs' js
  moved_aside {fs = fs} σ α' β' M into out = record {
    first = M.first;
    chain = M.chain;
    kept = λ i. omega (arith, M.kept i, into i, out i);
    frame = off_more (λ i. α' i + occ_list fs i) (λ i z. omega (arith, into i)) M.frame;
    fresh = M.fresh;
  }

  pub moved_back : {rs rs' : List (Record R V)} {f' : Link} {r : Result ℕ Unsound} {τ : ℕ → ℕ} {n : ℕ} {fs : List ℕ} (K : Back rs rs' f' r τ n fs) → Moved rs rs' f' τ (λ _. 0) fs K.fs' []
  moved_back {τ = τ} {fs = fs} K = record {
    first = K.first;
    chain = K.chain;
    kept = λ i. omega (arith, K.kept i);
    frame = off_more (λ i. τ i + occ_list fs i) (λ i z. omega arith) K.frame;
    fresh = λ i z. K.calm i;
  }

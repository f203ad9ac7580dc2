-- What the functions below the audit promise of its verdict.
use Rattle.std.specs.Prelude.{◌≡◌, List, ℕ, length, replicate}
use Rattle.std.specs.declared.result.Result.{Result}
use Rattle.std.specs.declared.result.Result.TheVariants.{Ok, Err}
use Rattle.audit.specs.Words.{Unsound, Link, Tree, Record}
use Rattle.audit.specs.Checks.{Rules}
use Rattle.audit.specs.Post.{Checked, SoundTo, Passed}

module _ {R I V S : Type 0} (w : Rules R I V S) (s : S) (rs : List (Record R V)) (roots : List Tree) (free : Link) (limit : ℕ) where
  abbrev pub Verdict : List R → Result ℕ Unsound → Type 0
  Verdict checked (Ok n) = Passed w s rs roots free limit checked n
  Verdict checked (Err e) = SoundTo w s rs roots free limit → ⊥

  -- what is found by marks that are zero at the start
  pub record Surveyed (s' : S) (marks : List ℕ) (r : Result ℕ Unsound) : Type 0 where
    pub checked : List R
    pub done : Checked w s s' (length marks) checked
    pub says : marks ≡ replicate (length rs) 0 → Verdict checked r

  -- by any marks, which are zero at the end
  pub record SurveyedFresh (s' : S) (marks marks' : List ℕ) (r : Result ℕ Unsound) : Type 0 where
    pub checked : List R
    pub done : Checked w s s' (length marks) checked
    pub says : length marks ≡ length rs → Verdict checked r
    pub zeroed : marks' ≡ replicate (length marks) 0

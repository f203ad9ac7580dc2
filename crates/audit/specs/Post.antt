-- What the audit promises.
use Rattle.std.specs.Prelude.{◌≡◌, List, [], ◌++◌, ℕ, ◌≤◌, ◌<◌, length, drop, replicate}
use Rattle.std.specs.declared.result.Result.{Result}
use Rattle.std.specs.declared.result.Result.TheVariants.{Ok, Err}
use Rattle.audit.specs.Words.{Link, Tree, Record}
use Rattle.audit.specs.Checks.{Rules, Stays, Run}
use Rattle.audit.specs.Sound.{Sound, rows_trees}
use Rattle.audit.specs.declared.AuditFault.{AuditFault}
use Rattle.audit.specs.declared.AuditFault.TheVariants.{ShortScratch, Unsound}

-- The first n bytes of the scratch, and no others, were used, and they are zero.
pub record Zeroed (n : ℕ) (scratch scratch' : List ℕ) : Type 0 where
  pub enough : n ≤ length scratch
  pub zeros : scratch' ≡ replicate n 0 ++ drop n scratch

-- From s to s' by checking the rows one after the other, each once, and at most n of them.
pub record Checked {R I V S : Type 0} (w : Rules R I V S) (s s' : S) (n : ℕ) (rows : List R) : Type 0 where
  pub ran : Run w.checks s rows s'
  pub stays : Stays w.items w.good s s'
  pub at_most : length rows ≤ n

module _ {R I V S : Type 0} (w : Rules R I V S) (s : S) (rs : List (Record R V)) (roots : List Tree) (free : Link) (limit : ℕ) where
  -- the slots are sound by what rows mean in the source
  abbrev pub SoundTo : Type 0
  SoundTo = Sound w.weigh w.means (w.items s) (w.good s) rs roots free limit

  -- The slots are sound, the rows checked are those of their trees, and n is their number.
  pub record Passed (checked : List R) (n : ℕ) : Type 0 where
    pub sound : SoundTo
    pub each : checked ≡ rows_trees sound.trees
    pub count : n ≡ length checked

  abbrev pub Outcome : List ℕ → List ℕ → List R → Result ℕ AuditFault → Type 0
  Outcome scratch scratch' checked (Ok n) = Zeroed (length rs) scratch scratch' × Passed checked n
  Outcome scratch scratch' checked (Err Unsound) = Zeroed (length rs) scratch scratch' × (SoundTo → ⊥)
  Outcome scratch scratch' checked (Err ShortScratch) = (length scratch < length rs) × (scratch' ≡ scratch) × (checked ≡ [])

  pub record Audited (s' : S) (scratch scratch' : List ℕ) (r : Result ℕ AuditFault) : Type 0 where
    pub checked : List R
    pub done : Checked w s s' (length rs) checked
    pub outcome : Outcome scratch scratch' checked r

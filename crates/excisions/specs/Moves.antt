-- What a call did with slots.
use Rattle.std.specs.Prelude.{◌≡◌, ℕ, ◌+◌, List, slice_index_or}
use Rattle.slots.specs.Ghost.{occ_list, none, head_of, Chain, Calm, Off}
use Rattle.slots.specs.Words.{Link}
use Rattle.slots.specs.declared.records.Record.{Record}

-- The slots that α counts, and the chain fs, became those that β counts, and the chain fs'; js are the new leaves and nodes.
pub record Moved {R V : Type 0} (rs rs' : List (Record R V)) (f' : Link) (α β : ℕ → ℕ) (fs fs' js : List ℕ) : Type 0 where
  pub first : head_of fs' ≡ f'
  pub chain : Chain rs' fs'
  pub kept : (i : ℕ) → β i + occ_list fs' i ≡ α i + occ_list fs i
  pub frame : Off rs rs' (λ i. α i + occ_list fs i)
  pub fresh : (i : ℕ) → occ_list js i ≡ 0 → Calm (slice_index_or rs i none) (slice_index_or rs' i none)

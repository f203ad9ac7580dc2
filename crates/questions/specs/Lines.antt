-- Finding a line feed in a part of the store.
use Rattle.std.specs.Prelude.{◌≡◌, ℕ, ◌+◌, ◌≤◌, List, length, take, drop, Ok, Result}
use Rattle.plain.specs.Lists.{count}
use Rattle.plain.specs.Tokens.{feed}
use Rattle.plain.specs.Questions.{column}
use Rattle.stores.specs.Stores.{Contents}
use Rattle.slots.specs.declared.records.Unsound.{Unsound}
use Rattle.asking.specs.Texts.{Reads}

-- j is just past the line feed with this number
pub record Ends (bs : List ℕ) (number j : ℕ) : Type 0 where
  pub within : j ≤ length bs
  pub feeds : count feed (take j bs) ≡ number
  pub after : column 0 (take j bs) ≡ 0

module _ {S : Type 0} (contents : S → Contents) where
  -- in n bytes at the address a
  pub record FeedFound (s s' : S) (a n number : ℕ) (r : Result ℕ Unsound) : Type 0 where
    pub value : a + n ≤ length (contents s).bytes → 1 ≤ number → number ≤ count feed (take n (drop a (contents s).bytes)) → (j : ℕ) × (r ≡ Ok j) × Ends (take n (drop a (contents s).bytes)) number j
    pub reading : Reads contents 256 s s'

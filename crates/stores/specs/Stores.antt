-- What a store means (a list of bytes, a capacity and a count of reads), and what its calls do to it.
use Rattle.std.specs.Prelude.{◌≡◌, ℕ, ◌+◌, ◌-◌, ◌^◌, ◌<◌, ◌≤◌, min, List, ◌++◌, length, take, drop, Some, None, Ok, Err, Option, Result, slice_index}
use Rattle.plain.specs.declared.faults.StoreFull.{StoreFull}

-- the most bytes that a store can have
abbrev pub largest : ℕ
largest = 4294967295

-- two counts of reads together, which stop at 2^64 - 1
abbrev pub summed : ℕ → ℕ → ℕ
summed m n = min (m + n) 18446744073709551615

-- the byte at a place, or none past the end
abbrev pub ByteAt : List ℕ → ℕ → Option ℕ → Type 0
ByteAt bytes at (Some b) = (at < length bytes) × (b ≡ slice_index bytes at)
ByteAt bytes at None = length bytes ≤ at

-- an append of `more` that fits gives the place where it begins
pub record Taken (bytes : List ℕ) (capacity : ℕ) (more : List ℕ) (at : ℕ) (bytes' : List ℕ) : Type 0 where
  pub fits : length more ≤ capacity - length bytes
  pub begins : at ≡ length bytes
  pub grown : bytes' ≡ bytes ++ more

-- one that does not fit changes nothing
pub record Refused (bytes : List ℕ) (capacity : ℕ) (more : List ℕ) (fault : StoreFull) (bytes' : List ℕ) : Type 0 where
  pub too_long : capacity - length bytes < length more
  pub length_told : fault.length ≡ length bytes
  pub spare_told : fault.spare ≡ capacity - length bytes
  pub same : bytes' ≡ bytes

abbrev pub Outcome : List ℕ → ℕ → List ℕ → Result ℕ StoreFull → List ℕ → Type 0
Outcome bytes capacity more (Ok at) bytes' = Taken bytes capacity more at bytes'
Outcome bytes capacity more (Err fault) bytes' = Refused bytes capacity more fault bytes'

-- bytes that fit a capacity, which is no larger than a store can have
pub record Sized (bytes : List ℕ) (capacity : ℕ) : Type 0 where
  pub within : length bytes ≤ capacity
  pub small : capacity ≤ largest

-- what a store means
pub record Contents : Type 0 where
  pub bytes : List ℕ
  pub capacity : ℕ
  pub reads : ℕ

module _ {S : Type 0} (contents : S → Contents) where
  -- what holds of every store of a kind
  pub record Lawful : Type 0 where
    pub within : (s : S) → length (contents s).bytes ≤ (contents s).capacity
    pub small : (s : S) → (contents s).capacity ≤ largest
    pub stops : (s : S) → (contents s).reads < 2 ^ 64

  -- from s to s' by a read
  pub record ReadsAt (s : S) (at : ℕ) (r : Option ℕ) (s' : S) : Type 0 where
    pub gives : ByteAt (contents s).bytes at r
    pub same_bytes : (contents s').bytes ≡ (contents s).bytes
    pub same_capacity : (contents s').capacity ≡ (contents s).capacity
    pub counts : (contents s').reads ≡ summed (contents s).reads 1

  -- from s to s' by an append
  pub record Appends (s : S) (more : List ℕ) (r : Result ℕ StoreFull) (s' : S) : Type 0 where
    pub outcome : Outcome (contents s).bytes (contents s).capacity more r (contents s').bytes
    pub same_capacity : (contents s').capacity ≡ (contents s).capacity
    pub same_reads : (contents s').reads ≡ (contents s).reads

  -- from s to s' by a copy of r bytes to the front of a buffer
  pub record CopiesOut (s : S) (from : ℕ) (buffer : List ℕ) (r : ℕ) (s' : S) (buffer' : List ℕ) : Type 0 where
    pub copied : r ≡ min (length buffer) (length (contents s).bytes - from)
    pub written : buffer' ≡ take r (drop from (contents s).bytes) ++ drop r buffer
    pub same_bytes : (contents s').bytes ≡ (contents s).bytes
    pub same_capacity : (contents s').capacity ≡ (contents s).capacity
    pub counts : (contents s').reads ≡ summed (contents s).reads r

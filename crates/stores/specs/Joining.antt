-- What joining two stores gives.
use Rattle.std.specs.Prelude.{◌≡◌, ◌+◌, ◌<◌, ◌≤◌, ◌++◌, length}
use Rattle.stores.specs.Stores.{largest, summed}
use Rattle.stores.specs.Kinds.{joined_contents}
use Rattle.stores.specs.declared.Store.{Ghosts}
use Rattle.stores.specs.declared.joined.Joined.{Joined}
use Rattle.stores.specs.declared.joined.joining.Unjoined.{Unjoined}

module _ {F B : Type 0} (f : Ghosts F) (b : Ghosts B) (front : F) (back : B) where
  pub record Accepted (j : Joined F B f b) : Type 0 where
    pub fits : length (f.contents front).bytes + (b.contents back).capacity ≤ largest
    pub bytes_are : (joined_contents j).bytes ≡ (f.contents front).bytes ++ (b.contents back).bytes
    pub capacity_is : (joined_contents j).capacity ≡ length (f.contents front).bytes + (b.contents back).capacity
    pub reads_are : (joined_contents j).reads ≡ summed (f.contents front).reads (b.contents back).reads

  pub record HandedBack (u : Unjoined F B) : Type 0 where
    pub too_large : largest < length (f.contents front).bytes + (b.contents back).capacity
    pub front_returned : u.front ≡ front
    pub back_returned : u.back ≡ back

-- Both ends of a tree by one definition.
use Rattle.std.specs.Prelude.{List, ◌++◌, ℕ}
use Rattle.std.specs.declared.option.Option.{Option}
use Rattle.std.specs.declared.option.Option.TheVariants.{None, Some}
use Rattle.slots.specs.Words.{Digit, One, Two, Three, Four, Side, Front, Back, Grown, Room, Over, Peel}

-- the first of the two on the front, the second on the back
abbrev pub pick : {A : Type 0} → Side → A → A → A
pick Front a b = a
pick Back a b = b

abbrev pub flipped : Side → Side
flipped Front = Back
flipped Back = Front

-- the first list at that end of the second
abbrev pub ends : {A : Type 0} → Side → List A → List A → List A
ends Front a b = a ++ b
ends Back a b = b ++ a

-- one slot more at that end
abbrev pub grown : Side → Digit → ℕ → Grown
grown Front (One a) x = Room (Two x a)
grown Front (Two a b) x = Room (Three x a b)
grown Front (Three a b c) x = Room (Four x a b c)
grown Front (Four a b c d) x = Over (Two x a) (Three b c d)
grown Back (One a) x = Room (Two a x)
grown Back (Two a b) x = Room (Three a b x)
grown Back (Three a b c) x = Room (Four a b c x)
grown Back (Four a b c d) x = Over (Two d x) (Three a b c)

-- one slot less at that end
abbrev pub peeled : Side → Digit → Peel
peeled Front (One a) = record { slot = a; rest = None }
peeled Front (Two a b) = record { slot = a; rest = Some (One b) }
peeled Front (Three a b c) = record { slot = a; rest = Some (Two b c) }
peeled Front (Four a b c d) = record { slot = a; rest = Some (Three b c d) }
peeled Back (One a) = record { slot = a; rest = None }
peeled Back (Two a b) = record { slot = b; rest = Some (One a) }
peeled Back (Three a b c) = record { slot = c; rest = Some (Two a b) }
peeled Back (Four a b c d) = record { slot = d; rest = Some (Three a b c) }

-- how many slots
abbrev pub count : Option Digit → ℕ
count None = 0
count (Some (One a)) = 1
count (Some (Two a b)) = 2
count (Some (Three a b c)) = 3
count (Some (Four a b c d)) = 4

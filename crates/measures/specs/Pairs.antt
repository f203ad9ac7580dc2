use Rattle.measures.specs.declared.pair.Pair.{Pair}

abbrev pub both : {X Y : Type 0} → X → Y → Pair X Y
both x y = record { left = x; right = y }

-- The store of a script: a text, and space behind it.
use Rattle.std.proofs.Common.{◌≡◌, ℕ, ◌+◌, ◌<◌, ◌≤◌, min, List, [], ◌++◌, length, ap, ◌∙◌, ap₂, append-nil, arith}
use Rattle.std.proofs.lemmas.List.{take_all}
use Rattle.stores.specs.Stores.{largest}
use Rattle.stores.specs.Kinds.{counting}

module _ (t b : List ℕ) (n k : ℕ) (small : length t ≤ 2048) (space : n ≡ 4096) (bs : b ≡ counting t) (room : k ≡ min n largest) where
  front_is : b ≡ t
  unfolding counting
  front_is = bs ∙ take_all largest t (omega (arith, small))

  front_size : length b ≡ length t
  front_size = ap length front_is

  room_is : k ≡ 4096
  room_is = let r = room in let s = space in omega arith

  pub never_too_large : largest < length b + k → ⊥
  never_too_large h = let f = front_size in let r = room_is in omega (arith, small, h)

  pub bytes_joined : (all more : List ℕ) → all ≡ b ++ more → more ≡ [] → all ≡ t
  bytes_joined all more e f = e ∙ ap₂ (λ p q. p ++ q) front_is f ∙ append-nil t

  pub capacity_joined : (c : ℕ) → c ≡ length b + k → c ≡ length t + 4096
  capacity_joined c e = let f = front_size in let r = room_is in omega arith

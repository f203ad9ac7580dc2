-- What stores hold, by length and by place, and how it grows.
use Rattle.std.proofs.Common.{◌≡◌, ℕ, ◌+◌, ◌<◌, min, List, [], ◌∷◌, ◌++◌, length, get_or, take, drop, set, Some, sym, ap, ◌∙◌, arith}
use Rattle.std.proofs.lemmas.List.{append-nil, append_assoc, length-take, length-drop, get_or-drop, take_min, nil_from_length, take_more, drop_more, set_at}
use Rattle.stores.specs.Stores.{largest, ByteAt}
use Rattle.stores.specs.Kinds.{counting}

pub append_none : (bytes more : List ℕ) → length more ≡ 0 → bytes ≡ bytes ++ more
append_none bytes more e = sym (ap (λ (t : List ℕ). bytes ++ t) (nil_from_length more e) ∙ append-nil bytes)

pub take_counting : (slice : List ℕ) (n : ℕ) → n ≡ min (length slice) largest → take n slice ≡ counting slice
unfolding counting
take_counting slice n e = ap (λ (k : ℕ). take k slice) (omega arith) ∙ take_min largest slice

-- one byte more read, and put behind those already copied over the front of a buffer
pub copied_more : (bytes bytes' old buffer : List ℕ) (from i at byte : ℕ) → bytes' ≡ bytes → at ≡ from + i → ByteAt bytes' at (Some byte) → i < length old → buffer ≡ take i (drop from bytes) ++ drop i old → set buffer i byte ≡ take (i + 1) (drop from bytes) ++ drop (i + 1) old
copied_more bytes bytes' old buffer from i at byte s a b k e =
    let source : List ℕ = drop from bytes in
    let d = length-drop from bytes in
    let t = length-take i source in
    let n = ap (λ (t : List ℕ). length t) s in
    let is : byte ≡ get_or source i 0 = b.1 ∙ ap (λ (t : List ℕ). get_or t at 0) s ∙ ap (λ (j : ℕ). get_or bytes j 0) a ∙ sym (get_or-drop from bytes i 0) in
    ap (λ (t : List ℕ). set t i byte) (e ∙ ap (λ (t : List ℕ). take i source ++ t) (drop_more old i 0 k))
    ∙ set_at (take i source) (get_or old i 0) (drop (i + 1) old) byte i (omega arith)
    ∙ ap (λ (x : ℕ). take i source ++ (x ∷ drop (i + 1) old)) is
    ∙ sym (ap (λ (t : List ℕ). t ++ drop (i + 1) old) (take_more source i 0 (omega arith)) ∙ append_assoc (take i source) (get_or source i 0 ∷ []) (drop (i + 1) old))

-- Pairs of hexadecimal digits, and when a field is made of them.
use Rattle.std.proofs.Common.{◌≡◌, ℕ, suc, ◌+◌, ◌*◌, ◌/◌, ◌%◌, Bool, true, false, ◌&&◌, cond, List, [], ◌∷◌, map, length, is_some, Some, None, Option, unwrap_or, refl, ap, ◌∙◌, arith}
use Rattle.std.specs.Bool.{then_some}
use Rattle.std.specs.List.{list_all}
use Rattle.std.specs.Option.{option_map}
use Rattle.std.specs.Simd.{first_chunks}
use Rattle.plain.specs.Script.{nibble, joined, hexes}
use Rattle.lines.specs.Bytes.{pair_value, bytes_of}
use Rattle.lines.specs.declared.hex.Hex.{Hex}

joined_none : (x y : Option ℕ) → joined x y None ≡ None
joined_none None y = refl
joined_none (Some x) None = refl
joined_none (Some x) (Some y) = refl

pub hexes_odd : (bs : List ℕ) → (length bs % 2 ≡ 0 → ⊥) → hexes bs ≡ None
hexes_odd [] h = absurd (h refl)
hexes_odd (a ∷ []) h = refl
hexes_odd (a ∷ (b ∷ bs)) h = rw (hexes_odd bs (λ e. h (omega arith))) (joined_none (nibble a) (nibble b))

abbrev pub is_digit : ℕ → Bool
is_digit b = is_some (nibble b)

mapped : (q : Bool) (ps : List (List ℕ)) → option_map (map pair_value) (cond q (Some ps) None) ≡ cond q (Some (map pair_value ps)) None
mapped true ps = refl
mapped false ps = refl

pair_joined : (x y : Option ℕ) (q : Bool) (ps : List (List ℕ)) → cond (is_some x && (is_some y && q)) (Some ((unwrap_or x 0 * 16 + unwrap_or y 0) ∷ map pair_value ps)) None ≡ joined x y (option_map (map pair_value) (cond q (Some ps) None))
pair_joined None y q ps = refl
pair_joined (Some x) None q ps = refl
pair_joined (Some x) (Some y) true ps = refl
pair_joined (Some x) (Some y) false ps = refl

-- a field of so many digits, as arrays of two
hexes_paired : (bs : List ℕ) → length bs % 2 ≡ 0 → option_map (map pair_value) (cond (list_all is_digit bs) (Some (first_chunks 2 (length bs / 2) bs)) None) ≡ hexes bs
hexes_paired [] e = refl
hexes_paired (a ∷ []) e = absurd (omega arith)
hexes_paired (a ∷ (b ∷ bs)) e =
    let k : suc (suc (length bs)) / 2 ≡ suc (length bs / 2) = omega arith in
    let ps = first_chunks 2 (length bs / 2) bs in
    let q = list_all is_digit bs in
    ap (λ (n : ℕ). option_map (map pair_value) (cond (is_digit a && (is_digit b && q)) (Some (first_chunks 2 n (a ∷ (b ∷ bs)))) None)) k
    ∙ mapped (is_digit a && (is_digit b && q)) ((a ∷ (b ∷ [])) ∷ ps)
    ∙ pair_joined (nibble a) (nibble b) q ps
    ∙ ap (joined (nibble a) (nibble b)) (hexes_paired bs (omega arith))

-- as `read` gives them
pub read_pairs : (h : Hex) (q : Bool) (bs : List ℕ) → length bs % 2 ≡ 0 → h.pairs.now ≡ first_chunks 2 (length bs / 2) bs → q ≡ list_all is_digit bs → option_map bytes_of (then_some q h) ≡ hexes bs
read_pairs h q bs e p d = same q ∙ ap (λ (ps : List (List ℕ)). option_map (map pair_value) (cond q (Some ps) None)) p ∙ ap (λ (b : Bool). option_map (map pair_value) (cond b (Some (first_chunks 2 (length bs / 2) bs)) None)) d ∙ hexes_paired bs e
  where
    same : (q : Bool) → option_map bytes_of (then_some q h) ≡ option_map (map pair_value) (cond q (Some h.pairs.now) None)
    same true = refl
    same false = refl

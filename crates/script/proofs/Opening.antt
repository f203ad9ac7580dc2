-- The line that opens a text.
use Rattle.std.proofs.Common.{◌≡◌, ℕ, suc, ◌+◌, ◌/◌, ◌%◌, ◌≤◌, Bool, true, false, cond, leb, List, [], ◌∷◌, ◌++◌, length, Some, None, Ok, Err, codes, Option, Result, refl, ap, ◌∙◌, arith}
use Rattle.std.proofs.lemmas.Bool.{leb-true, le-leb}
use Rattle.std.specs.Option.{option_map}
use Rattle.plain.specs.Lists.{same}
use Rattle.plain.specs.Machine.{Machine, Call, text, fresh}
use Rattle.plain.specs.Script.{Request, State, parted, hexes, at_most, plainly, with_one, with_two, read_fields, request_of_line, printed, answer_fields, opens, line_step}
use Rattle.plain.specs.declared.answers.Answer.TheVariants.{Done}
use Rattle.plain.specs.declared.calls.Request.TheVariants as request
use Rattle.plain.specs.declared.faults.TextFault.{TextFault}
use Rattle.plain.specs.declared.faults.TextFault.TheVariants.{Pieces}
use Rattle.plain.proofs.Opened.{blocks_spell}
use Rattle.script.specs.Engines.{opened, Waits}

pub opened_text : (s : List ℕ) → text (opened s) ≡ s
opened_text s = blocks_spell s (length s / 256) 0 (length s % 256) (omega arith)

-- A record that opens has at most 2048 bytes.
module _ (s : List ℕ) where
  no_call : (o : Option Call) → option_map request.Call o ≡ Some (request.Open s) → length s ≤ 2048
  no_call None e = let z : ◌≡◌ {A = ℕ} 0 1 = cc in absurd (omega arith)
  no_call (Some c) e = let z : ◌≡◌ {A = ℕ} 0 1 = cc in absurd (omega arith)

  most : (o : Option (List ℕ)) → option_map request.Open (at_most 2048 o) ≡ Some (request.Open s) → length s ≤ 2048
  most None e = let z : ◌≡◌ {A = ℕ} 0 1 = cc in absurd (omega arith)
  most (Some t) e = go (leb (length t) 2048) refl e
    where
      go : (b : Bool) → leb (length t) 2048 ≡ b → option_map request.Open (cond b (Some t) None) ≡ Some (request.Open s) → length s ≤ 2048
      go true q e = let f : t ≡ s = cc in let n = ap length f in omega (arith, leb-true (length t) 2048 q)
      go false q e = let z : ◌≡◌ {A = ℕ} 0 1 = cc in absurd (omega arith)

  by_fields : (fs : List (List ℕ)) → read_fields fs ≡ Some (request.Open s) → length s ≤ 2048
  by_fields [] e = let z : ◌≡◌ {A = ℕ} 0 1 = cc in absurd (omega arith)
  by_fields (f ∷ []) e = no_call (plainly f) e
  by_fields (f ∷ (x ∷ [])) e = go (same f (codes "O")) e
    where
      go : (b : Bool) → cond b (option_map request.Open (at_most 2048 (hexes x))) (option_map request.Call (with_one f x)) ≡ Some (request.Open s) → length s ≤ 2048
      go true e = most (hexes x) e
      go false e = no_call (with_one f x) e
  by_fields (f ∷ (x ∷ (y ∷ []))) e = no_call (with_two f x y) e
  by_fields (f ∷ (x ∷ (y ∷ (z ∷ zs)))) e = let z : ◌≡◌ {A = ℕ} 0 1 = cc in absurd (omega arith)

  pub open_short : (l : List ℕ) → request_of_line l ≡ Some (request.Open s) → length s ≤ 2048
  open_short l e = go (leb (length l) 4200) e
    where
      go : (b : Bool) → elim b as (λ _. Option Request) [ true ↦ read_fields (parted 9 l) | false ↦ None ] ≡ Some (request.Open s) → length s ≤ 2048
      go true e = by_fields (parted 9 l) e
      go false e = let z : ◌≡◌ {A = ℕ} 0 1 = cc in absurd (omega arith)

  -- 168 slots have room for 20 pieces
  step_open : (i : ℕ) (l : List ℕ) → request_of_line l ≡ Some (request.Open s) → line_step i None (request_of_line l) ≡ (Some (opened s), answer_fields (length s) Done)
  step_open i l e =
      let h : length s ≤ 5120 = omega (arith, open_short l e) in
      ap (line_step i None) e
      ∙ ap (λ (b : Bool). opens i (elim (cond b None (Some Pieces)) as (λ _. Result Machine TextFault) [ None ↦ Ok (fresh s (length s + 4096) 168 168) | Some f ↦ Err f ])) (le-leb (length s) 5120 h)
      ∙ ap (λ (t : List ℕ). (Some (opened s), answer_fields (length t) Done)) (opened_text s)

-- what is printed of lines, of which the first opens s
pub open_more : (prints : ℕ → State → List (List ℕ) → List ℕ) → Waits prints → (i : ℕ) (l s : List ℕ) (more : List (List ℕ)) → request_of_line l ≡ Some (request.Open s) → prints i None (l ∷ more) ≡ printed (answer_fields (length s) Done) ++ prints (suc i) (Some (opened s)) more
open_more prints waits i l s more e = waits.reads i l more ∙ ap (λ (x : State × List (List ℕ)). printed x.1 ++ prints (suc i) x.0 more) (step_open s i l e)

-- From a close back to its open.
use Rattle.std.specs.Prelude.{◌≡◌, ℕ, ◌+◌, ◌-◌, ◌<◌, ◌≤◌, cond, ◌&&◌, ◌⊎◌, List, [], ◌++◌, length, take, drop, Some, None, Ok, Option, Result, ◌==◌, slice_index}
use Rattle.std.proofs.Common.{suc, Bool, ◌∷◌, sym, refl, ap, subst, ◌∙◌}
use Rattle.std.specs.Option.{option_map}
use Rattle.plain.specs.Lists.{at}
use Rattle.plain.specs.Tokens.{end_state}
use Rattle.plain.specs.Brackets.{waiting}
use Rattle.lexer.specs.Numbers.{number_of, state_of}
use Rattle.lexer.specs.Reading.{read_from}
use Rattle.lexer.specs.States.{step_at}
use Rattle.lexer.specs.RowSteps.{read_at}
use Rattle.lexer.specs.declared.tokens.TokenRow.{TokenRow}
use Rattle.stores.specs.Stores.{Contents}
use Rattle.slots.specs.Ghost.{rows}
use Rattle.slots.specs.declared.records.Record.{Record}
use Rattle.slots.specs.declared.records.Tree.{Tree}
use Rattle.slots.specs.declared.records.Unsound.{Unsound}
use Rattle.pieces.specs.Rows.{bytes_of, Good}
use Rattle.pieces.specs.Sound.{TextValue}
use Rattle.pieces.specs.declared.rows.PieceRow.{PieceRow}
use Rattle.asking.specs.Texts.{TextAt, Reads}
use Rattle.bracket_questions.specs.Waiting.{waited}
use Rattle.opens.specs.Walks.{Follows}
use Rattle.opens.specs.declared.parts.Held.{Held}
use Rattle.bracket_answers.specs.Spots.{StandsAt}
use Rattle.bracket_answers.specs.declared.spot.Spot.{Spot}
use Rattle.bracket_answers.specs.declared.spot.Other.{Other}
use Rattle.bracket_answers.specs.declared.backward.Met.{Met}

-- the byte b at i if it is an open after which as many wait as the rank
abbrev pub kept : Met → TokenRow → ℕ → ℕ → ℕ → Met
kept m r rank i b = cond (number_of r.state == 6 && r.unmet == rank) (record { index = i; byte = b }) m

-- Of the opens that wait after the list bs, read from state q, this is the one of that rank: the first has rank 1.
pub record MetIn (q : ℕ) (bs : List ℕ) (rank : ℕ) (m : Met) : Type 0 where
  pub within : m.index < length bs
  pub byte : m.byte ≡ slice_index bs m.index
  pub place : (o : ℕ) → at (waited q o [] bs) ((read_from q bs).unmet - rank) ≡ Some (o + m.index)

waited_at : (q i : ℕ) (os bs : List ℕ) → waited (number_of (state_of q)) i os bs ≡ waited q i os bs
waited_at q i os [] = refl
waited_at q i os (b ∷ bs) = ap (λ (n : ℕ × Bool). waited n.0 (suc i) (waiting n.0 i os) bs) (step_at q b)

met_in_at : (q : ℕ) {bs : List ℕ} {rank : ℕ} {m : Met} → MetIn (number_of (state_of q)) bs rank m → MetIn q bs rank m
met_in_at q {bs = bs} {rank = rank} M = record {
  within = M.within;
  byte = M.byte;
  place = λ o.
      sym (ap (λ (os : List ℕ). at os ((read_from (number_of (state_of q)) bs).unmet - rank)) (waited_at q o [] bs) ∙ ap (λ (v : TokenRow). at (waited q o [] bs) (v.unmet - rank)) (read_at q bs)) ∙ M.place o;
}

-- the last open that waits at the offset p, with its byte
abbrev pub last_open : List ℕ → ℕ → Option Other
last_open t p = option_map (λ o. record { offset = o; byte = slice_index t o }) (at (waited 0 0 [] (take p t)) 0)

-- The open o lies in this row, or part of a row, by its rank among those that wait at its end.
pub record HeldIn (B T : List ℕ) (o : Option ℕ) (h : Held) : Type 0 where
  pub front : List ℕ
  pub back : List ℕ
  pub text : T ≡ front ++ (bytes_of B h.row ++ back)
  pub good : Good B h.row
  pub start : Follows front h.start
  pub some : 1 ≤ h.rank
  pub own : h.rank ≤ (read_from (end_state 0 front) (bytes_of B h.row)).unmet
  pub same : o ≡ at (waited (end_state 0 front) (length front) [] (bytes_of B h.row)) ((read_from (end_state 0 front) (bytes_of B h.row)).unmet - h.rank)

pub record OpenHeld {A : Type 0} (rs : List (Record PieceRow (TextValue A))) (tr : Tree) (x : Spot) (r : Result (Option Held) Unsound) : Type 0 where
  pub holds : (am : List ℕ → A) (B T : List ℕ) (X : TextAt am B rs tr T) (p : ℕ) → StandsAt B (rows X.t) p x
      → ((r ≡ Ok None) × (at (waited 0 0 [] (take p T)) 0 ≡ None)) ⊎ ((h : Held) × (r ≡ Ok (Some h)) × HeldIn B T (at (waited 0 0 [] (take p T)) 0) h)

module _ {S : Type 0} (contents : S → Contents) where
  pub record OpenMet (s s' : S) (a n q rank : ℕ) (r : Result Met Unsound) : Type 0 where
    pub meets : (bs : List ℕ) → bs ≡ take n (drop a (contents s).bytes) → a + n ≤ length (contents s).bytes → 1 ≤ rank → rank ≤ (read_from q bs).unmet → (m : Met) × (r ≡ Ok m) × MetIn q bs rank m
    pub reading : Reads contents 256 s s'

  -- from a number that is no state's as from the last state
  pub met_at : {s s' : S} {a n rank : ℕ} {r : Result Met Unsound} (q : ℕ) → OpenMet s s' a n (number_of (state_of q)) rank r → OpenMet s s' a n q rank r
  met_at {rank = rank} q M = record {
    meets = λ bs e fits some own.
        let found = M.meets bs e fits some (subst (λ (v : TokenRow). rank ≤ v.unmet) (sym (read_at q bs)) own) in
        (found.0, found.1, met_in_at q found.2);
    reading = M.reading;
  }

  pub record OpenTold {A : Type 0} (rs : List (Record PieceRow (TextValue A))) (tr : Tree) (x : Spot) (s s' : S) (r : Result (Option Other) Unsound) : Type 0 where
    pub tells : (am : List ℕ → A) (T : List ℕ) (X : TextAt am (contents s).bytes rs tr T) (p : ℕ) → StandsAt (contents s).bytes (rows X.t) p x → r ≡ Ok (last_open T p)
    pub reading : Reads contents 256 s s'

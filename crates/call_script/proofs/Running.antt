-- A list of calls on a text that a script opens is always begun, and there is a reply to each call.
use Rattle.std.proofs.Common.{◌≡◌, ℕ, ◌+◌, ◌≤◌, Bool, true, leb, List, [], ◌∷◌, ◌++◌, length, take, drop, is_ok, None, Result, sym, ap, ◌∙◌, subst, append-nil, arith, take-append-drop}
use Rattle.std.proofs.lemmas.List.{drop_all}
use Rattle.std.proofs.lemmas.Bool.{le-leb}
use Rattle.plain.specs.Lists.{first_no}
use Rattle.plain.specs.Machine.{Machine, Call, fresh, step}
use Rattle.plain.specs.declared.faults.TextFault.TheVariants.{Pieces}
use Rattle.measures.specs.Lines.{lines}
use Rattle.measures.specs.declared.longest_line.LongestLine.{LongestLine}
use Rattle.measures.specs.declared.mark_totals.MarkRow.{MarkRow}
use Rattle.measures.specs.declared.mark_totals.MarkTotals.{MarkTotals}
use Rattle.stores.specs.Stores.{Contents}
use Rattle.slots.specs.declared.records.Record.{Record}
use Rattle.pieces.specs.Sound.{TextValue}
use Rattle.pieces.specs.declared.rows.PieceRow.{PieceRow}
use Rattle.text.specs.declared.Whole.{Whole}
use Rattle.calls.specs.Claim.{Moment, Runs}
use Rattle.calls.specs.Runs.{run_asked, RunOutcome, Claim}
use Rattle.calls.specs.declared.RunFault.{RunFault}
use Rattle.calls.specs.declared.RunFault.TheVariants as fault
use Rattle.call_script.specs.Replied.{Replies, Replied}

-- 168 slots have room for 20 pieces
pub always_begun : (B : List ℕ) (n k : ℕ) → length B ≤ 2048 → n ≤ k → first_no (run_asked B 168 168 168 n k) ≡ None
always_begun B n k small enough =
    let room : length B ≤ 5120 = omega arith in
    ap (λ (b : Bool). first_no ((b, fault.Replies) ∷ (leb (length B) 5120, fault.Opening Pieces) ∷ [])) (le-leb n k enough)
    ∙ ap (λ (b : Bool). first_no ((b, fault.Opening Pieces) ∷ [])) (le-leb (length B) 5120 room)

module _ {S : Type 0} (contents : S → Contents) where
  runs_replied : (x : Moment LongestLine S) (m : Machine) (ys : List (Moment LongestLine S)) (cs : List Call) (ans : Replies) → Runs lines contents x m ys cs ans → Replied m cs ans
  runs_replied x m [] [] [] h = tt
  runs_replied x m [] [] (a ∷ ans) h = h
  runs_replied x m [] (c ∷ cs) ans h = absurd h
  runs_replied x m (y ∷ ys) [] ans h = absurd h
  runs_replied x m (y ∷ ys) (c ∷ cs) [] h = h
  runs_replied x m (y ∷ ys) (c ∷ cs) (a ∷ ans) h = (h.0.answer, (h.0.size_told, runs_replied y (step lines m c).0 ys cs ans h.1))

  module _ (cs : List Call) (rs rs' : List (Record PieceRow (TextValue LongestLine))) (ms ms' : List (Record MarkRow MarkTotals)) (s s' : S) (z z' : List ℕ) (ans ans' : Replies) (r : Result Whole RunFault) where
    Told : Type 0
    Told = (is_ok r ≡ true) × Replied (fresh (contents s).bytes (contents s).capacity (length rs) (length ms)) cs ans'

    told : length ans ≤ length cs → RunOutcome lines contents None cs rs rs' ms ms' s s' z z' ans ans' r → Told
    unfolding Told
    told few o =
        let w = o.2 in
        let none : drop (length cs) ans' ≡ [] = w.other_replies ∙ drop_all (length cs) ans few in
        let all : take (length cs) ans' ≡ ans' = sym (append-nil (take (length cs) ans')) ∙ ap (λ q. take (length cs) ans' ++ q) (sym none) ∙ take-append-drop (length cs) ans' in
        (ap is_ok o.1, subst (λ q. Replied (fresh (contents s).bytes (contents s).capacity (length rs) (length ms)) cs q) all (runs_replied w.first (fresh (contents s).bytes (contents s).capacity (length rs) (length ms)) w.ran.trace cs (take (length cs) ans') w.ran.runs))

    outcome_told : length (contents s).bytes ≤ 2048 → length ans ≡ length cs → length rs ≡ 168 → length ms ≡ 168 → length z ≡ 168 → Claim lines contents cs rs rs' ms ms' s s' z z' ans ans' r → Told
    outcome_told small places u v q h =
        let asked : first_no (run_asked (contents s).bytes (length rs) (length ms) (length z) (length cs) (length ans)) ≡ None =
        ap (λ a. first_no (run_asked (contents s).bytes a (length ms) (length z) (length cs) (length ans))) u
        ∙ ap (λ a. first_no (run_asked (contents s).bytes 168 a (length z) (length cs) (length ans))) v
        ∙ ap (λ a. first_no (run_asked (contents s).bytes 168 168 a (length cs) (length ans))) q
        ∙ always_begun (contents s).bytes (length cs) (length ans) small (omega arith) in
        told (omega arith) (subst (λ o. RunOutcome lines contents o cs rs rs' ms ms' s s' z z' ans ans' r) asked h.outcome)

    -- the text t with all that a script lends
    module _ (t : List ℕ) (small : length t ≤ 2048) (b : (contents s).bytes ≡ t) (k : (contents s).capacity ≡ length t + 4096) (places : length ans ≡ length cs) (u : length rs ≡ 168) (v : length ms ≡ 168) (q : length z ≡ 168) (h : Claim lines contents cs rs rs' ms ms' s s' z z' ans ans' r) where
      all_told : Told
      all_told = outcome_told (let e = ap length b in omega arith) places u v q h

      pub all_replied : Replied (fresh t (length t + 4096) 168 168) cs ans'
      unfolding Told
      all_replied =
          subst (λ x. Replied (fresh t (length t + 4096) 168 x) cs ans') v
          (subst (λ x. Replied (fresh t (length t + 4096) x (length ms)) cs ans') u
          (subst (λ x. Replied (fresh t x (length rs) (length ms)) cs ans') k
          (subst (λ x. Replied (fresh x (contents s).capacity (length rs) (length ms)) cs ans') b all_told.1)))

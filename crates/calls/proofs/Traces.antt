-- A list of calls, and one call more.
use Rattle.std.proofs.Common.{◌≡◌, ℕ, ◌+◌, ◌<◌, ◌≤◌, min, List, [], ◌∷◌, ◌++◌, length, get_or, take, drop, set, sym, refl, ap, ◌∙◌, subst, ⊎_elim, arith, length-take, take_all, drop-set-lt, Bor}
use lib.ListN.{length-map}
use Rattle.std.proofs.lemmas.List.{take_more, take_more_set, get_or-map}
use Rattle.std.proofs.lemmas.Bool.{cases_lt}
use Rattle.plain.specs.Machine.{Machine, Call, step, run}
use Rattle.plain.specs.declared.calls.Call as calls
use Rattle.stores.specs.Stores.{Contents}
use Rattle.calls.specs.Calls.{plain_call, plain_calls}
use Rattle.calls.specs.Claim.{Moment, SpellsAt, Step, Runs, Ran, last_of}
use Rattle.calls.specs.Steps.{Enough, Makes, MakesAll}
use Rattle.calls.specs.declared.texts.Reply.{Reply}

last_more : {W : Type 0} (x : W) (ys : List W) (z : W) → last_of x (ys ++ (z ∷ [])) ≡ z
last_more x [] z = refl
last_more x (y ∷ ys) z = last_more y ys z

run_more : {A : Type 0} (am : List ℕ → A) (m : Machine) (cs : List Call) (c : Call) → (run am m (cs ++ (c ∷ []))).0 ≡ (step am (run am m cs).0 c).0
run_more am m [] c = refl
run_more am m (d ∷ cs) c = run_more am (step am m d).0 cs c

enough_still : {X Y : Type 0} (rs rs' : List X) (ms ms' : List Y) (z z' : List ℕ) → length rs' ≡ length rs → length ms' ≡ length ms → length z' ≡ length z → Enough rs ms z → Enough rs' ms' z'
enough_still rs rs' ms ms' z z' e f h room = omega (arith, room, length-take 8316 rs, length-take 8316 rs', length-take 8316 ms, length-take 8316 ms')

call_more : (cs : List (calls.Call (Bor (List ℕ)))) (i : ℕ) (d : calls.Call (Bor (List ℕ))) → i < length cs → take (i + 1) (plain_calls cs) ≡ take i (plain_calls cs) ++ (plain_call (get_or cs i d) ∷ [])
call_more cs i d lt =
    take_more (plain_calls cs) i (plain_call d) (omega (arith, length-map cs plain_call))
    ∙ ap (λ c. take i (plain_calls cs) ++ (c ∷ [])) (get_or-map plain_call cs i d (plain_call d) lt)

module _ {A S : Type 0} (am : List ℕ → A) (contents : S → Contents) where
  runs_more : (x : Moment A S) (m : Machine) (ys : List (Moment A S)) (cs : List Call) (ans : List (Reply A)) (c : Call) (a : Reply A) (z : Moment A S)
      → Runs am contents x m ys cs ans → Step am contents (run am m cs).0 (last_of x ys) c a z
      → Runs am contents x m (ys ++ (z ∷ [])) (cs ++ (c ∷ [])) (ans ++ (a ∷ []))
  runs_more x m [] [] [] c a z r s = (s, tt)
  runs_more x m [] [] (b ∷ ans) c a z r s = absurd r
  runs_more x m [] (d ∷ cs) ans c a z r s = absurd r
  runs_more x m (y ∷ ys) [] ans c a z r s = absurd r
  runs_more x m (y ∷ ys) (d ∷ cs) [] c a z r s = absurd r
  runs_more x m (y ∷ ys) (d ∷ cs) (b ∷ ans) c a z r s = (r.0, runs_more y (step am m d).0 ys cs ans c a z r.1 s)

  -- The first i calls were made.
  pub record MadeSoFar (x : Moment A S) (cs : List Call) (old ans : List (Reply A)) (i : ℕ) (y : Moment A S) : Type 0 where
    pub ran : (m : Machine) → SpellsAt am contents x m → Enough x.slots x.marks x.scratch → Ran am contents x m (take i cs) (take i ans) y
    pub ends : (m : Machine) → SpellsAt am contents x m → Enough x.slots x.marks x.scratch → SpellsAt am contents y (run am m (take i cs)).0
    pub others : drop (length cs) ans ≡ drop (length cs) old

  pub none_made : (x : Moment A S) (cs : List Call) (ans : List (Reply A)) → MadeSoFar x cs ans ans 0 x
  none_made x cs ans = record { ran = λ m sp room. record { trace = []; runs = tt; ends = refl }; ends = λ m sp room. sp; others = refl }

  pub one_more : {x : Moment A S} {cs : List Call} {old ans : List (Reply A)} {i : ℕ} {y : Moment A S} (c : Call) (a : Reply A) (z : Moment A S) → i < length cs → i < length ans → take (i + 1) cs ≡ take i cs ++ (c ∷ [])
      → (Enough x.slots x.marks x.scratch → Makes am contents y c a z) → MadeSoFar x cs old ans i y → MadeSoFar x cs old (set ans i a) (i + 1) z
  one_more {x} {cs} {old} {ans} {i} {y} c a z lt lt' more makes M = record {
    ran = λ m sp room.
        let r = M.ran m sp room in
        let s = makes room (run am m (take i cs)).0 (M.ends m sp room) in
        let s' = subst (λ q. Step am contents (run am m (take i cs)).0 q c a z) (sym r.ends) s in
        record {
          trace = r.trace ++ (z ∷ []);
          runs =
              subst (λ q. Runs am contents x m (r.trace ++ (z ∷ [])) q (take (i + 1) (set ans i a))) (sym more)
              (subst (λ q. Runs am contents x m (r.trace ++ (z ∷ [])) (take i cs ++ (c ∷ [])) q) (sym (take_more_set ans i a lt'))
              (runs_more x m r.trace (take i cs) (take i ans) c a z r.runs s'));
          ends = last_more x r.trace z;
        };
    ends = λ m sp room.
        let s = makes room (run am m (take i cs)).0 (M.ends m sp room) in
        subst (λ q. SpellsAt am contents z (run am m q).0) (sym more) (subst (λ q. SpellsAt am contents z q) (sym (run_more am m (take i cs) c)) s.spells);
    others = drop-set-lt (length cs) ans i a lt ∙ M.others;
  }

  -- one turn of the loop
  pub next_made : {x : Moment A S} {old : List (Reply A)} {y : Moment A S} (cs : List (calls.Call (Bor (List ℕ)))) (ans new : List (Reply A)) (i : ℕ) (d : calls.Call (Bor (List ℕ))) (a : Reply A) (z : Moment A S)
      → i < length cs → i < length ans → length y.slots ≡ length x.slots → length y.marks ≡ length x.marks → length y.scratch ≡ length x.scratch
      → (Enough y.slots y.marks y.scratch → Makes am contents y (plain_call (get_or cs i d)) a z) → new ≡ set ans i a
      → MadeSoFar x (plain_calls cs) old ans i y → MadeSoFar x (plain_calls cs) old new (i + 1) z
  next_made {x} {old} {y} cs ans new i d a z lt lt' ls lm lz makes e M =
      subst (λ q. MadeSoFar x (plain_calls cs) old q (i + 1) z) (sym e)
      (one_more (plain_call (get_or cs i d)) a z (omega (arith, length-map cs plain_call)) lt' (call_more cs i d lt)
      (λ room. makes (enough_still x.slots y.slots x.marks y.marks x.scratch y.scratch ls lm lz room)) M)

  pub all_made : {x : Moment A S} {cs : List Call} {old ans : List (Reply A)} {i : ℕ} {y : Moment A S} → i ≡ min (length cs) (length ans) → length ans ≡ length old → MadeSoFar x cs old ans i y → MakesAll am contents x cs old ans y
  all_made {x} {cs} {old} {ans} {i} {y} e len M = record {
    ran = λ m sp room.
        subst (λ q. Ran am contents x m q (take (length cs) ans) y) calls_are (subst (λ q. Ran am contents x m (take i cs) q y) replies_are (M.ran m sp room));
    ends = λ m sp room. subst (λ q. SpellsAt am contents y (run am m q).0) calls_are (M.ends m sp room);
    others = M.others;
  }
    where
      calls_are : take i cs ≡ take (length old) cs
      calls_are = ⊎_elim
          (λ (lt : length cs < length old). take_all i cs (omega arith) ∙ sym (take_all (length old) cs (omega arith)))
          (λ (le : length old ≤ length cs). ap (λ n. take n cs) (let q : i ≡ length old = omega arith in q))
          (cases_lt (length cs) (length old))

      replies_are : take i ans ≡ take (length cs) ans
      replies_are = ⊎_elim
          (λ (lt : length cs < length old). ap (λ n. take n ans) (let q : i ≡ length cs = omega arith in q))
          (λ (le : length old ≤ length cs). take_all i ans (omega arith) ∙ sym (take_all (length cs) ans (omega arith)))
          (cases_lt (length cs) (length old))

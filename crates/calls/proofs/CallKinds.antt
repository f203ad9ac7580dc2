-- What holds of a call by its kind.
use Rattle.std.proofs.Common.{◌≡◌, ℕ, true, false, not, ◌⊎◌, List, is_some, refl, ap, inl, inr, arith, Bor}
use Rattle.plain.specs.Machine.{Machine, Call, allowed, accepted}
use Rattle.plain.specs.declared.answers.Answer.TheVariants.{Done}
use Rattle.plain.specs.declared.calls.Call as calls
use Rattle.plain.specs.declared.calls.Call.TheVariants as call
use Rattle.calls.specs.Calls.{edits, questions, audits, kind_of, plain_call}

abbrev Lent : Type 0
Lent = calls.Call (Bor (List ℕ))

edits_not_questions : {X : Type 0} → edits ≡ questions → X
edits_not_questions e = let z : ◌≡◌ {A = ℕ} 0 1 = cc in absurd (omega arith)

questions_not_edits : {X : Type 0} → questions ≡ edits → X
questions_not_edits e = let z : ◌≡◌ {A = ℕ} 0 1 = cc in absurd (omega arith)

audits_not_edits : {X : Type 0} → audits ≡ edits → X
audits_not_edits e = let z : ◌≡◌ {A = ℕ} 0 1 = cc in absurd (omega arith)

audits_not_questions : {X : Type 0} → audits ≡ questions → X
audits_not_questions e = let z : ◌≡◌ {A = ℕ} 0 1 = cc in absurd (omega arith)

true_not_false : {X : Type 0} → true ≡ false → X
true_not_false e = let z : ◌≡◌ {A = ℕ} 0 1 = cc in absurd (omega arith)

-- a question is always allowed, and changes no machine
pub asks_allowed : (m : Machine) (c : Call) → kind_of c ≡ questions → allowed m c ≡ true
asks_allowed m (call.Insert p s) e = edits_not_questions e
asks_allowed m (call.Delete a b) e = edits_not_questions e
asks_allowed m (call.Cut a b) e = edits_not_questions e
asks_allowed m (call.Paste p) e = edits_not_questions e
asks_allowed m call.Discard e = edits_not_questions e
asks_allowed m (call.Mark q l) e = edits_not_questions e
asks_allowed m (call.LineOf p) e = refl
asks_allowed m (call.StartOf k) e = refl
asks_allowed m (call.TokenAt p) e = refl
asks_allowed m (call.TokenNumber k) e = refl
asks_allowed m (call.BracketAt p) e = refl
asks_allowed m (call.MarkFrom q) e = refl
asks_allowed m (call.Range a b) e = refl
asks_allowed m call.Whole e = refl
asks_allowed m (call.Audit n) e = audits_not_questions e

pub asks_keep : {A : Type 0} (am : List ℕ → A) (m : Machine) (c : Call) → kind_of c ≡ questions → (accepted am m c).0 ≡ m
asks_keep am m (call.Insert p s) e = edits_not_questions e
asks_keep am m (call.Delete a b) e = edits_not_questions e
asks_keep am m (call.Cut a b) e = edits_not_questions e
asks_keep am m (call.Paste p) e = edits_not_questions e
asks_keep am m call.Discard e = edits_not_questions e
asks_keep am m (call.Mark q l) e = edits_not_questions e
asks_keep am m (call.LineOf p) e = refl
asks_keep am m (call.StartOf k) e = refl
asks_keep am m (call.TokenAt p) e = refl
asks_keep am m (call.TokenNumber k) e = refl
asks_keep am m (call.BracketAt p) e = refl
asks_keep am m (call.MarkFrom q) e = refl
asks_keep am m (call.Range a b) e = refl
asks_keep am m call.Whole e = refl
asks_keep am m (call.Audit n) e = audits_not_questions e

-- an edit answers that it is done
pub edit_done : {A : Type 0} (am : List ℕ → A) (m : Machine) (c : Call) → kind_of c ≡ edits → (accepted am m c).1 ≡ Done
edit_done am m (call.Insert p s) e = refl
edit_done am m (call.Delete a b) e = refl
edit_done am m (call.Cut a b) e = refl
edit_done am m (call.Paste p) e = refl
edit_done am m call.Discard e = refl
edit_done am m (call.Mark q l) e = refl
edit_done am m (call.LineOf p) e = questions_not_edits e
edit_done am m (call.StartOf k) e = questions_not_edits e
edit_done am m (call.TokenAt p) e = questions_not_edits e
edit_done am m (call.TokenNumber k) e = questions_not_edits e
edit_done am m (call.BracketAt p) e = questions_not_edits e
edit_done am m (call.MarkFrom q) e = questions_not_edits e
edit_done am m (call.Range a b) e = questions_not_edits e
edit_done am m call.Whole e = questions_not_edits e
edit_done am m (call.Audit n) e = audits_not_edits e

-- what is left when some calls are ruled out
pub asks_kind : (c : Lent) → ((p : ℕ) (s : Bor (List ℕ)) → c ≡ call.Insert p s → ⊥) → ((a b : ℕ) → c ≡ call.Delete a b → ⊥) → ((a b : ℕ) → c ≡ call.Cut a b → ⊥) → ((p : ℕ) → c ≡ call.Paste p → ⊥) → (c ≡ call.Discard → ⊥) → ((q l : ℕ) → c ≡ call.Mark q l → ⊥) → ((n : ℕ) → c ≡ call.Audit n → ⊥) → kind_of (plain_call c) ≡ questions
asks_kind (call.Insert p s) no-Insert no-Delete no-Cut no-Paste no-Discard no-Mark no-Audit = absurd (no-Insert p s refl)
asks_kind (call.Delete a b) no-Insert no-Delete no-Cut no-Paste no-Discard no-Mark no-Audit = absurd (no-Delete a b refl)
asks_kind (call.Cut a b) no-Insert no-Delete no-Cut no-Paste no-Discard no-Mark no-Audit = absurd (no-Cut a b refl)
asks_kind (call.Paste p) no-Insert no-Delete no-Cut no-Paste no-Discard no-Mark no-Audit = absurd (no-Paste p refl)
asks_kind call.Discard no-Insert no-Delete no-Cut no-Paste no-Discard no-Mark no-Audit = absurd (no-Discard refl)
asks_kind (call.Mark q l) no-Insert no-Delete no-Cut no-Paste no-Discard no-Mark no-Audit = absurd (no-Mark q l refl)
asks_kind (call.LineOf p) no-Insert no-Delete no-Cut no-Paste no-Discard no-Mark no-Audit = refl
asks_kind (call.StartOf k) no-Insert no-Delete no-Cut no-Paste no-Discard no-Mark no-Audit = refl
asks_kind (call.TokenAt p) no-Insert no-Delete no-Cut no-Paste no-Discard no-Mark no-Audit = refl
asks_kind (call.TokenNumber k) no-Insert no-Delete no-Cut no-Paste no-Discard no-Mark no-Audit = refl
asks_kind (call.BracketAt p) no-Insert no-Delete no-Cut no-Paste no-Discard no-Mark no-Audit = refl
asks_kind (call.MarkFrom q) no-Insert no-Delete no-Cut no-Paste no-Discard no-Mark no-Audit = refl
asks_kind (call.Range a b) no-Insert no-Delete no-Cut no-Paste no-Discard no-Mark no-Audit = refl
asks_kind call.Whole no-Insert no-Delete no-Cut no-Paste no-Discard no-Mark no-Audit = refl
asks_kind (call.Audit n) no-Insert no-Delete no-Cut no-Paste no-Discard no-Mark no-Audit = absurd (no-Audit n refl)

pub whole_rest : (c : Lent) → ((p : ℕ) (s : Bor (List ℕ)) → c ≡ call.Insert p s → ⊥) → ((a b : ℕ) → c ≡ call.Delete a b → ⊥) → ((q l : ℕ) → c ≡ call.Mark q l → ⊥) → ((a b : ℕ) → c ≡ call.Cut a b → ⊥) → kind_of (plain_call c) ≡ edits → (m : Machine) → is_some m.clip ≡ false → allowed m (plain_call c) ≡ false
whole_rest (call.Insert p s) no-Insert no-Delete no-Mark no-Cut e m h = absurd (no-Insert p s refl)
whole_rest (call.Delete a b) no-Insert no-Delete no-Mark no-Cut e m h = absurd (no-Delete a b refl)
whole_rest (call.Cut a b) no-Insert no-Delete no-Mark no-Cut e m h = absurd (no-Cut a b refl)
whole_rest (call.Paste p) no-Insert no-Delete no-Mark no-Cut e m h = h
whole_rest call.Discard no-Insert no-Delete no-Mark no-Cut e m h = h
whole_rest (call.Mark q l) no-Insert no-Delete no-Mark no-Cut e m h = absurd (no-Mark q l refl)
whole_rest (call.LineOf p) no-Insert no-Delete no-Mark no-Cut e m h = questions_not_edits e
whole_rest (call.StartOf k) no-Insert no-Delete no-Mark no-Cut e m h = questions_not_edits e
whole_rest (call.TokenAt p) no-Insert no-Delete no-Mark no-Cut e m h = questions_not_edits e
whole_rest (call.TokenNumber k) no-Insert no-Delete no-Mark no-Cut e m h = questions_not_edits e
whole_rest (call.BracketAt p) no-Insert no-Delete no-Mark no-Cut e m h = questions_not_edits e
whole_rest (call.MarkFrom q) no-Insert no-Delete no-Mark no-Cut e m h = questions_not_edits e
whole_rest (call.Range a b) no-Insert no-Delete no-Mark no-Cut e m h = questions_not_edits e
whole_rest call.Whole no-Insert no-Delete no-Mark no-Cut e m h = questions_not_edits e
whole_rest (call.Audit n) no-Insert no-Delete no-Mark no-Cut e m h = audits_not_edits e

pub held_rest : (c : Lent) → ((p : ℕ) → c ≡ call.Paste p → ⊥) → (c ≡ call.Discard → ⊥) → kind_of (plain_call c) ≡ edits → (m : Machine) → is_some m.clip ≡ true → allowed m (plain_call c) ≡ false
held_rest (call.Insert p s) no-Paste no-Discard e m h = ap not h
held_rest (call.Delete a b) no-Paste no-Discard e m h = ap not h
held_rest (call.Cut a b) no-Paste no-Discard e m h = ap not h
held_rest (call.Paste p) no-Paste no-Discard e m h = absurd (no-Paste p refl)
held_rest call.Discard no-Paste no-Discard e m h = absurd (no-Discard refl)
held_rest (call.Mark q l) no-Paste no-Discard e m h = ap not h
held_rest (call.LineOf p) no-Paste no-Discard e m h = questions_not_edits e
held_rest (call.StartOf k) no-Paste no-Discard e m h = questions_not_edits e
held_rest (call.TokenAt p) no-Paste no-Discard e m h = questions_not_edits e
held_rest (call.TokenNumber k) no-Paste no-Discard e m h = questions_not_edits e
held_rest (call.BracketAt p) no-Paste no-Discard e m h = questions_not_edits e
held_rest (call.MarkFrom q) no-Paste no-Discard e m h = questions_not_edits e
held_rest (call.Range a b) no-Paste no-Discard e m h = questions_not_edits e
held_rest call.Whole no-Paste no-Discard e m h = questions_not_edits e
held_rest (call.Audit n) no-Paste no-Discard e m h = audits_not_edits e

-- the calls that are edits
pub edit_kind : (c : Lent) → ((p : ℕ) × (s : Bor (List ℕ)) × (c ≡ call.Insert p s)) ⊎ (((a : ℕ) × (b : ℕ) × (c ≡ call.Delete a b)) ⊎ (((a : ℕ) × (b : ℕ) × (c ≡ call.Cut a b)) ⊎ (((p : ℕ) × (c ≡ call.Paste p)) ⊎ ((c ≡ call.Discard) ⊎ ((q : ℕ) × (l : ℕ) × (c ≡ call.Mark q l))))))
    → kind_of (plain_call c) ≡ edits
edit_kind c (inl e) = ap (λ (d : Lent). kind_of (plain_call d)) e.2
edit_kind c (inr (inl e)) = ap (λ (d : Lent). kind_of (plain_call d)) e.2
edit_kind c (inr (inr (inl e))) = ap (λ (d : Lent). kind_of (plain_call d)) e.2
edit_kind c (inr (inr (inr (inl e)))) = ap (λ (d : Lent). kind_of (plain_call d)) e.1
edit_kind c (inr (inr (inr (inr (inl e))))) = ap (λ (d : Lent). kind_of (plain_call d)) e
edit_kind c (inr (inr (inr (inr (inr e))))) = ap (λ (d : Lent). kind_of (plain_call d)) e.2

pub no_question : {X : Type 0} (c : Lent) → ((p : ℕ) → c ≡ call.LineOf p → ⊥) → ((k : ℕ) → c ≡ call.StartOf k → ⊥) → ((p : ℕ) → c ≡ call.TokenAt p → ⊥) → ((k : ℕ) → c ≡ call.TokenNumber k → ⊥) → ((p : ℕ) → c ≡ call.BracketAt p → ⊥) → ((q : ℕ) → c ≡ call.MarkFrom q → ⊥) → ((a b : ℕ) → c ≡ call.Range a b → ⊥) → (c ≡ call.Whole → ⊥) → kind_of (plain_call c) ≡ questions → X
no_question (call.Insert p s) no-LineOf no-StartOf no-TokenAt no-TokenNumber no-BracketAt no-MarkFrom no-Range no-Whole e = edits_not_questions e
no_question (call.Delete a b) no-LineOf no-StartOf no-TokenAt no-TokenNumber no-BracketAt no-MarkFrom no-Range no-Whole e = edits_not_questions e
no_question (call.Cut a b) no-LineOf no-StartOf no-TokenAt no-TokenNumber no-BracketAt no-MarkFrom no-Range no-Whole e = edits_not_questions e
no_question (call.Paste p) no-LineOf no-StartOf no-TokenAt no-TokenNumber no-BracketAt no-MarkFrom no-Range no-Whole e = edits_not_questions e
no_question call.Discard no-LineOf no-StartOf no-TokenAt no-TokenNumber no-BracketAt no-MarkFrom no-Range no-Whole e = edits_not_questions e
no_question (call.Mark q l) no-LineOf no-StartOf no-TokenAt no-TokenNumber no-BracketAt no-MarkFrom no-Range no-Whole e = edits_not_questions e
no_question (call.LineOf p) no-LineOf no-StartOf no-TokenAt no-TokenNumber no-BracketAt no-MarkFrom no-Range no-Whole e = absurd (no-LineOf p refl)
no_question (call.StartOf k) no-LineOf no-StartOf no-TokenAt no-TokenNumber no-BracketAt no-MarkFrom no-Range no-Whole e = absurd (no-StartOf k refl)
no_question (call.TokenAt p) no-LineOf no-StartOf no-TokenAt no-TokenNumber no-BracketAt no-MarkFrom no-Range no-Whole e = absurd (no-TokenAt p refl)
no_question (call.TokenNumber k) no-LineOf no-StartOf no-TokenAt no-TokenNumber no-BracketAt no-MarkFrom no-Range no-Whole e = absurd (no-TokenNumber k refl)
no_question (call.BracketAt p) no-LineOf no-StartOf no-TokenAt no-TokenNumber no-BracketAt no-MarkFrom no-Range no-Whole e = absurd (no-BracketAt p refl)
no_question (call.MarkFrom q) no-LineOf no-StartOf no-TokenAt no-TokenNumber no-BracketAt no-MarkFrom no-Range no-Whole e = absurd (no-MarkFrom q refl)
no_question (call.Range a b) no-LineOf no-StartOf no-TokenAt no-TokenNumber no-BracketAt no-MarkFrom no-Range no-Whole e = absurd (no-Range a b refl)
no_question call.Whole no-LineOf no-StartOf no-TokenAt no-TokenNumber no-BracketAt no-MarkFrom no-Range no-Whole e = absurd (no-Whole refl)
no_question (call.Audit n) no-LineOf no-StartOf no-TokenAt no-TokenNumber no-BracketAt no-MarkFrom no-Range no-Whole e = audits_not_questions e

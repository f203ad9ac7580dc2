-- What the engine that only sums up prints of a line.
use Rattle.std.proofs.Common.{◌≡◌, ℕ, suc, List, [], ◌∷◌, ◌++◌, length, Some, None, Option, refl, ap, ◌∙◌, arith}
use Rattle.plain.specs.Questions.{summary}
use Rattle.plain.specs.Script.{Request, State, request_of_line, printed, answer_fields, refused_at}
use Rattle.plain.specs.declared.answers.Answer.TheVariants as answer
use Rattle.plain.specs.declared.calls.Call.TheVariants as call
use Rattle.plain.specs.declared.calls.Request.TheVariants as request
use Rattle.plain.specs.declared.faults.CallFault.TheVariants.{NotAllowed}
use Rattle.plain.specs.declared.faults.LineFault.{LineFault}
use Rattle.plain.specs.declared.faults.LineFault.TheVariants as fault
use Rattle.measures.specs.Law.{weights}
use Rattle.script.specs.Engines.{opened, no_call}
use Rattle.script.specs.Early.{early_step, early_from}
use Rattle.script.proofs.Opening.{opened_text}

pub bytes_weigh : (bs : List ℕ) → weights (λ _. 1) bs ≡ length bs
bytes_weigh [] = refl
bytes_weigh (b ∷ bs) = let h = bytes_weigh bs in omega arith

-- of a line while the text s is open, by what it gives
module _ (s : List ℕ) (i : ℕ) (l : List ℕ) (more : List (List ℕ)) where
  printed_by : (fs : List (List ℕ)) → early_step i (Some (opened s)) (request_of_line l) ≡ (Some (opened s), fs) → early_from i (Some (opened s)) (l ∷ more) ≡ printed fs ++ early_from (suc i) (Some (opened s)) more
  printed_by fs = ap (λ (x : State × List (List ℕ)). printed x.1 ++ early_from (suc i) x.0 more)

  refused : (r : Option Request) (f : LineFault) → no_call r ≡ Some f → early_step i (Some (opened s)) r ≡ (Some (opened s), refused_at i f)
  refused None f e = let g : fault.Unreadable ≡ f = cc in ap (λ (x : LineFault). (Some (opened s), refused_at i x)) g
  refused (Some (request.Open t)) f e = let g : fault.Call NotAllowed ≡ f = cc in ap (λ (x : LineFault). (Some (opened s), refused_at i x)) g
  refused (Some (request.Call c)) f e = let z : ◌≡◌ {A = ℕ} 0 1 = cc in absurd (omega arith)

  pub no_call_printed : (f : LineFault) → no_call (request_of_line l) ≡ Some f → early_from i (Some (opened s)) (l ∷ more) ≡ printed (refused_at i f) ++ early_from (suc i) (Some (opened s)) more
  no_call_printed f e = printed_by (refused_at i f) (refused (request_of_line l) f e)

  pub whole_printed : request_of_line l ≡ Some (request.Call call.Whole) → early_from i (Some (opened s)) (l ∷ more) ≡ printed (answer_fields (length s) (answer.Whole (summary s))) ++ early_from (suc i) (Some (opened s)) more
  whole_printed e =
      printed_by (answer_fields (length s) (answer.Whole (summary s)))
      (ap (early_step i (Some (opened s))) e ∙ ap (λ (t : List ℕ). (Some (opened s), answer_fields (length t) (answer.Whole (summary t)))) (opened_text s))

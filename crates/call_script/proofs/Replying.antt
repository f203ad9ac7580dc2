-- What is printed of a line, when these replies are left.
use Rattle.std.proofs.Common.{◌≡◌, ℕ, suc, List, ◌∷◌, ◌++◌, Some, None, Option, ap, arith}
use Rattle.plain.specs.Script.{Request, request_of_line, printed, refused_at}
use Rattle.plain.specs.declared.calls.Request.TheVariants as request
use Rattle.plain.specs.declared.faults.CallFault.TheVariants.{NotAllowed}
use Rattle.plain.specs.declared.faults.LineFault.{LineFault}
use Rattle.plain.specs.declared.faults.LineFault.TheVariants as fault
use Rattle.script.specs.Engines.{no_call}
use Rattle.call_script.specs.Replied.{Replies, reply_step, replies_from}

module _ (i : ℕ) (l : List ℕ) (more : List (List ℕ)) where
  printed_by : (ans left : Replies) (fs : List (List ℕ)) → reply_step i ans (request_of_line l) ≡ (left, fs) → replies_from i ans (l ∷ more) ≡ printed fs ++ replies_from (suc i) left more
  printed_by ans left fs = ap (λ (x : Replies × List (List ℕ)). printed x.1 ++ replies_from (suc i) x.0 more)

  refused : (r : Option Request) (f : LineFault) (ans : Replies) → no_call r ≡ Some f → reply_step i ans r ≡ (ans, refused_at i f)
  refused None f ans e = let g : fault.Unreadable ≡ f = cc in ap (λ (x : LineFault). (ans, refused_at i x)) g
  refused (Some (request.Open t)) f ans e = let g : fault.Call NotAllowed ≡ f = cc in ap (λ (x : LineFault). (ans, refused_at i x)) g
  refused (Some (request.Call c)) f ans e = let z : ◌≡◌ {A = ℕ} 0 1 = cc in absurd (omega arith)

  pub no_call_printed : (f : LineFault) (ans : Replies) → no_call (request_of_line l) ≡ Some f → replies_from i ans (l ∷ more) ≡ printed (refused_at i f) ++ replies_from (suc i) ans more
  no_call_printed f ans e = printed_by ans ans (refused_at i f) (refused (request_of_line l) f ans e)

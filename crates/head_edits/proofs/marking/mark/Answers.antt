use Rattle.std.proofs.Common.{refl, rules, ap}
use Rattle.head_edits.proofs.Deciding.{kept, not_kept, stays_so}
use Rattle.head_edits.proofs.Markings.{marked, mark_no_size, mark_shut, mark_made}
use Rattle.head_edits.proofs.marking.mark.Goals as goal

pub returns-in_err-size : goal.returns-in_err-size
returns-in_err-size g c = record {
  edits = λ s. mark_no_size s c.args.at c.args.label c.size_of.ensures c.in_err-size.was;
  stays = stays_so c.from_residual.result refl;
}

pub returns-in_err-decide_mark : goal.returns-in_err-decide_mark
returns-in_err-decide_mark g c = record {
  edits = λ s. mark_shut s c.args.at c.args.label c.size_of.ensures c.in_ok-size.was c.limit.ensures c.decide_mark.ensures c.in_err-decide_mark.was (search rules);
  stays = stays_so c.from_residual-in_err-decide_mark.result refl;
}

pub returns-in_err-tree : goal.returns-in_err-tree
returns-in_err-tree g c = record {
  edits = λ s. mark_made s c.args.at c.args.label c.size_of.ensures c.in_ok-size.was c.limit.ensures c.decide_mark.ensures c.in_ok-decide_mark.was c.put_mark.ensures (not_kept (ap (λ u. marked c.args.head.now u c.put_mark.new.free) c.in_err-tree.was));
  stays = stays_so c.from_residual-in_err-tree.result refl;
}

pub returns : goal.returns
returns g c = record {
  edits = λ s. rw c.saturating_add.ensures (mark_made s c.args.at c.args.label c.size_of.ensures c.in_ok-size.was c.limit.ensures c.decide_mark.ensures c.in_ok-decide_mark.was c.put_mark.ensures (kept (ap (λ u. marked c.args.head.now u c.put_mark.new.free) c.in_ok-tree.was)));
  stays = tt;
}

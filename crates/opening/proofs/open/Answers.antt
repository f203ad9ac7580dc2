use Rattle.std.proofs.Common.{rules, sym, inl, inr, ⊎_elim}
use Rattle.opening.proofs.FreshTexts.{open_few_slots, open_many_bytes, open_unsound, opened, opens_at}
use Rattle.opening.proofs.«open».Goals as goal

pub returns-then-slots-lt-LEAST_SLOTS : goal.returns-then-slots-lt-LEAST_SLOTS
returns-then-slots-lt-LEAST_SLOTS g c = open_few_slots (⊎_elim inl (λ both. inr both.1) c.then-slots-lt-LEAST_SLOTS.either)

pub returns-then-length-limit : goal.returns-then-length-limit
returns-then-length-limit g c = open_many_bytes c.if-slots-lt-LEAST_SLOTS.false c.if-marks-lt-LEAST_SLOTS.false c.len-length.ensures c.limit.ensures c.if-length-limit.true

pub returns : goal.returns
returns g c =
    let same = sym c.fill.ensures.same in
    opens_at {rs₁ = c.fill.new.arena.slots.now} (search rules) (opened c.if-slots-lt-LEAST_SLOTS.false c.if-marks-lt-LEAST_SLOTS.false c.len-length.ensures c.limit.ensures c.if-length-limit.false c.lay_out-free.ensures c.lay_out-free_marks.ensures c.fill.ensures.filled c.in_ok-text.was c.div_ceil.ensures)

pub returns-in_err-text : goal.returns-in_err-text
returns-in_err-text g c =
    let same = sym c.fill.ensures.same in
    opens_at {rs₁ = c.fill.new.arena.slots.now} (search rules) (open_unsound c.if-slots-lt-LEAST_SLOTS.false c.if-marks-lt-LEAST_SLOTS.false c.len-length.ensures c.limit.ensures c.if-length-limit.false c.lay_out-free.ensures c.lay_out-free_marks.ensures c.fill.ensures.filled c.in_err-text.was)

use Rattle.std.proofs.Common.{◌≡◌, true, refl, rules, inl, inr, ⊎_elim}
use Rattle.lexer.specs.Numbers.{number_of}
use Rattle.lexer.specs.declared.states.State.TheVariants.{Word}
use Rattle.token_answers.proofs.WordPaths.{kind_unread, spelt_none, spelt_unread, spelt_more, spelt_all}
use Rattle.token_answers.proofs.words.kind_between.Goals as goal

pub returns-then-ne : goal.returns-then-ne
returns-then-ne g c =
    let other : c.ne.result ≡ true → c.into-last.result ≡ Word → ⊥ = λ t w. (search rules) in
    (c.into-last.result, c.into-last.ensures, kind_unread c.args.start c.args.end c.into-last.result c.saturating_sub-size.ensures (⊎_elim (λ t. inl (other t)) inr c.then-ne.either) c.kind_of.ensures)

pub loop-i-init : goal.loop-i-init
loop-i-init g c = spelt_none refl

pub loop-i-preserved : goal.loop-i-preserved
loop-i-preserved g c = spelt_more c.saturating_sub-size.ensures c.if-size-gt5.false c.loop-i-test.true c.saturating_add.ensures c.loop-i.invariant c.byte_at.ensures c.in_ok-byte.was

pub returns-in_err-byte : goal.returns-in_err-byte
returns-in_err-byte g c = (c.into-last.result, c.into-last.ensures, spelt_unread c.saturating_sub-size.ensures c.if-size-gt5.false c.loop-i-test.true c.saturating_add.ensures c.loop-i.invariant c.byte_at.ensures (number_of c.into-last.result) c.in_err-byte.was)

pub returns : goal.returns
returns g c = (c.into-last.result, c.into-last.ensures, spelt_all (number_of c.into-last.result) c.saturating_sub-size.ensures c.if-size-gt5.false c.loop-i-test.false c.loop-i.auto.i-end c.loop-i.invariant c.kind_of-2.ensures)

use Rattle.std.proofs.Common.{refl}
use Rattle.plain.specs.Lists.{slice}
use Rattle.plain.specs.Machine.{text}
use Rattle.plain.specs.Questions.{line_of_offset, start_of_line, token_of_offset, token_of_number, bracket_of_offset, mark_of_offset, summary}
use Rattle.plain.specs.declared.answers.Answer.TheVariants as answer
use Rattle.text.specs.Texts.{watched_of}
use Rattle.calls.proofs.CallKinds.{no_question}
use Rattle.calls.proofs.Questions.{passed_on, unread, answers}
use Rattle.calls.proofs.inquiries.ask.Goals as goal

pub returns-in_err-line_of-in-LineOf : goal.returns-in_err-line_of-in-LineOf
returns-in_err-line_of-in-LineOf g c kind = answers (λ m. line_of_offset (text m) c.in-LineOf.at) answer.Line c.in-LineOf.is (λ m. refl) (passed_on answer.Line _ _ c.from_residual.ensures.1) (c.in_err-line_of-in-LineOf.ensures (watched_of c.args.marks.now))

pub returns-in_err-start_of-in-StartOf : goal.returns-in_err-start_of-in-StartOf
returns-in_err-start_of-in-StartOf g c kind = answers (λ m. start_of_line (text m) c.in-StartOf.line) answer.Start c.in-StartOf.is (λ m. refl) (passed_on answer.Start _ _ c.from_residual-in_err-start_of-in-StartOf.ensures.1) (c.in_err-start_of-in-StartOf.ensures (watched_of c.args.marks.now))

pub returns-in_err-token_at-in-TokenAt : goal.returns-in_err-token_at-in-TokenAt
returns-in_err-token_at-in-TokenAt g c kind = answers (λ m. token_of_offset (text m) c.in-TokenAt.at) answer.Token c.in-TokenAt.is (λ m. refl) (passed_on answer.Token _ _ c.from_residual-in_err-token_at-in-TokenAt.ensures.1) (c.in_err-token_at-in-TokenAt.ensures (watched_of c.args.marks.now))

pub returns-in_err-token_number-in-TokenNumber : goal.returns-in_err-token_number-in-TokenNumber
returns-in_err-token_number-in-TokenNumber g c kind = answers (λ m. token_of_number (text m) c.in-TokenNumber.number) answer.Token c.in-TokenNumber.is (λ m. refl) (passed_on answer.Token _ _ c.from_residual-in_err-token_number-in-TokenNumber.ensures.1) (c.in_err-token_number-in-TokenNumber.ensures (watched_of c.args.marks.now))

pub returns-in_err-bracket_at-in-BracketAt : goal.returns-in_err-bracket_at-in-BracketAt
returns-in_err-bracket_at-in-BracketAt g c kind = answers (λ m. bracket_of_offset (text m) c.in-BracketAt.at) answer.Bracket c.in-BracketAt.is (λ m. refl) (passed_on answer.Bracket _ _ c.from_residual-in_err-bracket_at-in-BracketAt.ensures.1) (c.in_err-bracket_at-in-BracketAt.ensures (watched_of c.args.marks.now))

pub returns-in_err-mark_from-in-MarkFrom : goal.returns-in_err-mark_from-in-MarkFrom
returns-in_err-mark_from-in-MarkFrom g c kind = answers (λ m. mark_of_offset m.marks c.in-MarkFrom.at) answer.Mark c.in-MarkFrom.is (λ m. refl) (passed_on answer.Mark _ _ c.from_residual-in_err-mark_from-in-MarkFrom.ensures.1) (unread (c.in_err-mark_from-in-MarkFrom.ensures (g.S.Store.contents c.args.store.now).bytes))

pub returns-in_err-range-in-Range : goal.returns-in_err-range-in-Range
returns-in_err-range-in-Range g c kind = answers (λ m. g.A.Measure.means (slice (text m) c.in-Range.from c.in-Range.to)) answer.Range c.in-Range.is (λ m. refl) (passed_on answer.Range _ _ c.from_residual-in_err-range-in-Range.ensures.1) (c.in_err-range-in-Range.ensures (watched_of c.args.marks.now))

pub returns-in_err-whole-in-Whole : goal.returns-in_err-whole-in-Whole
returns-in_err-whole-in-Whole g c kind = answers (λ m. summary (text m)) answer.Whole c.in-Whole.is (λ m. refl) (passed_on answer.Whole _ _ c.from_residual-in_err-whole-in-Whole.ensures.1) (unread (c.in_err-whole-in-Whole.ensures (g.S.Store.contents c.args.store.now).bytes (watched_of c.args.marks.now)))

pub returns-in_ok-line_of-in-LineOf : goal.returns-in_ok-line_of-in-LineOf
returns-in_ok-line_of-in-LineOf g c kind = answers (λ m. line_of_offset (text m) c.in-LineOf.at) answer.Line c.in-LineOf.is (λ m. refl) refl (c.in_ok-line_of-in-LineOf.ensures (watched_of c.args.marks.now))

pub returns-in_ok-start_of-in-StartOf : goal.returns-in_ok-start_of-in-StartOf
returns-in_ok-start_of-in-StartOf g c kind = answers (λ m. start_of_line (text m) c.in-StartOf.line) answer.Start c.in-StartOf.is (λ m. refl) refl (c.in_ok-start_of-in-StartOf.ensures (watched_of c.args.marks.now))

pub returns-in_ok-token_at-in-TokenAt : goal.returns-in_ok-token_at-in-TokenAt
returns-in_ok-token_at-in-TokenAt g c kind = answers (λ m. token_of_offset (text m) c.in-TokenAt.at) answer.Token c.in-TokenAt.is (λ m. refl) refl (c.in_ok-token_at-in-TokenAt.ensures (watched_of c.args.marks.now))

pub returns-in_ok-token_number-in-TokenNumber : goal.returns-in_ok-token_number-in-TokenNumber
returns-in_ok-token_number-in-TokenNumber g c kind = answers (λ m. token_of_number (text m) c.in-TokenNumber.number) answer.Token c.in-TokenNumber.is (λ m. refl) refl (c.in_ok-token_number-in-TokenNumber.ensures (watched_of c.args.marks.now))

pub returns-in_ok-bracket_at-in-BracketAt : goal.returns-in_ok-bracket_at-in-BracketAt
returns-in_ok-bracket_at-in-BracketAt g c kind = answers (λ m. bracket_of_offset (text m) c.in-BracketAt.at) answer.Bracket c.in-BracketAt.is (λ m. refl) refl (c.in_ok-bracket_at-in-BracketAt.ensures (watched_of c.args.marks.now))

pub returns-in_ok-mark_from-in-MarkFrom : goal.returns-in_ok-mark_from-in-MarkFrom
returns-in_ok-mark_from-in-MarkFrom g c kind = answers (λ m. mark_of_offset m.marks c.in-MarkFrom.at) answer.Mark c.in-MarkFrom.is (λ m. refl) refl (unread (c.in_ok-mark_from-in-MarkFrom.ensures (g.S.Store.contents c.args.store.now).bytes))

pub returns-in_ok-range-in-Range : goal.returns-in_ok-range-in-Range
returns-in_ok-range-in-Range g c kind = answers (λ m. g.A.Measure.means (slice (text m) c.in-Range.from c.in-Range.to)) answer.Range c.in-Range.is (λ m. refl) refl (c.in_ok-range-in-Range.ensures (watched_of c.args.marks.now))

pub returns-in_ok-whole-in-Whole : goal.returns-in_ok-whole-in-Whole
returns-in_ok-whole-in-Whole g c kind = answers (λ m. summary (text m)) answer.Whole c.in-Whole.is (λ m. refl) refl (unread (c.in_ok-whole-in-Whole.ensures (g.S.Store.contents c.args.store.now).bytes (watched_of c.args.marks.now)))

pub returns-in_default : goal.returns-in_default
returns-in_default g c kind =
    no_question c.args.call c.in_default.not-LineOf c.in_default.not-StartOf c.in_default.not-TokenAt c.in_default.not-TokenNumber c.in_default.not-BracketAt c.in_default.not-MarkFrom c.in_default.not-Range c.in_default.not-Whole kind

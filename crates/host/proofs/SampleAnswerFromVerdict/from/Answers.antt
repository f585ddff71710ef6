-- `SampleAnswer::from` meets its contract. Assumes nothing.
use mathlib.Core.Path.{sym, ap}
use Rattle.detector.specs.declared.Verdict.{Verdict}
use Rattle.detector.specs.Answers.{verdict_means}
use Rattle.host.specs.declared.SampleAnswer.{SampleAnswer}
use Rattle.host.specs.Answers.{answer_of}
use Rattle.host.proofs.SampleAnswerFromVerdict.from.Goals as goal

abbrev answer : Verdict → SampleAnswer
answer v = answer_of (verdict_means v)

pub returns-in-First : goal.returns-in-First
returns-in-First c = sym (ap answer c.in-First.is)

pub returns-in-Scored : goal.returns-in-Scored
returns-in-Scored c = sym (ap answer c.in-Scored.is)

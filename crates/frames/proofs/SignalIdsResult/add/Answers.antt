-- `frames::SignalIdsResult::add` meets its contract.
-- Assumes nothing.
use native.Mathlib.Omega.{arith}
use Rattle.frames.proofs.Answers.{count_is, room_in_counts, listed_none, listed_full, one_quiet, one_listed}
use Rattle.frames.proofs.SignalIdsResult.add.Goals as goal

pub counted-self-requires : goal.counted-self-requires
counted-self-requires c =
    let r = c.requires in
    room_in_counts c.args.self.now r.0 c.args.report r.1 r.2

pub returns-in-Some : goal.returns-in-Some
returns-in-Some c = λ l few is.
    one_listed c.args.self.now l c.args.report few is c.counted-self.ensures c.in-Some.anomaly c.if-self-lt8.true c.in-Some.ensures

pub returns-in_default : goal.returns-in_default
returns-in_default c = λ l few is.
    one_quiet c.args.self.now l c.args.report few is c.counted-self.ensures (listed_none l _ c.in_default.ensures)

pub returns-else-self-lt8 : goal.returns-else-self-lt8
returns-else-self-lt8 c = λ l few is.
    one_quiet c.args.self.now l c.args.report few is c.counted-self.ensures (listed_full l _ (omega (arith, count_is c.args.self.now l c.args.report few is)))

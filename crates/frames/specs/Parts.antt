-- Document 01, "One frame", and document 02, T-02: what functions inside the layer answer, by the definitions of Frames.
-- Assumes nothing.
use Rattle.std.specs.Prelude.{cond, ◌+◌}
use Rattle.frames.specs.declared.Counts.{Counts}
use Rattle.frames.specs.Frames.{Finding, is_passed_over, no_value_by}

-- the counts with one outcome more
abbrev pub one_more : Counts → Finding → Counts
one_more c f =
    record {
      condition_not_met = cond (is_passed_over f) (c.condition_not_met + 1) c.condition_not_met;
      outside = cond (no_value_by 16 f) (c.outside + 1) c.outside;
      not_finite = cond (no_value_by 17 f) (c.not_finite + 1) c.not_finite;
    }

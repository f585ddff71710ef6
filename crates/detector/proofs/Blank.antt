-- What a read past the end of an array of detectors gives, in the checker's own form. Assumes nothing.
use mathlib.Core.Bool.{false}
use lib.Ieee.{nan}
use Rattle.detector.specs.declared.EwmaDetector.{EwmaDetector}

abbrev pub blank : EwmaDetector
blank =
    record {
      mean = nan;
      variance = nan;
      alpha = nan;
      z_threshold = nan;
      count = 0;
      frozen = false;
      freeze_remaining = 0;
      freeze_duration = 0;
      warmup_count = 0;
    }

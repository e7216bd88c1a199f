-- Document 01's marked examples hold: one statement over one list, straight from the definitions.
--
-- Main result: `all_hold`.
use mathlib.Core.Path.{refl}
use Rattle.consistency.specs.Check.{check_of}
use Rattle.demands.specs.Marked.{AllHold, marked}

pub all_hold : AllHold marked
unfolding check_of
all_hold = (
  (refl, refl, refl),
  (
    (refl, refl, refl),
    (
      (refl, refl, refl),
      (
        (refl, refl, refl),
        (
          (refl, refl, refl),
          (
            (refl, refl, refl),
            (
              (refl, refl, refl),
              (
                (refl, refl, refl),
                (
                  (refl, refl, refl),
                  (
                    (refl, refl, refl),
                    (
                      (refl, refl, refl),
                      (
                        (refl, refl, refl),
                        tt,
                      ),
                    ),
                  ),
                ),
              ),
            ),
          ),
        ),
      ),
    ),
  ),
)

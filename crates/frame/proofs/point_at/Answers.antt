-- `frame::point_at` meets its contract: both coordinates are finite. Assumes nothing.
use mathlib.Core.Path.{ap, ◌∙◌}
use Rattle.journeys.proofs.Tests.{and_both}
use Rattle.frame.specs.Frames.{x_bits, y_bits, finite_bits, point_ok}
use Rattle.frame.proofs.point_at.Goals as goal

pub coordinate-requires : goal.coordinate-requires
unfolding point_ok
coordinate-requires c =
    let t = c.args.coordinates.now in
    ap finite_bits c.word_at.ensures ∙ (and_both (finite_bits (x_bits t c.args.v)) (finite_bits (y_bits t c.args.v)) c.requires.1).0

pub coordinate-requires-2 : goal.coordinate-requires-2
unfolding point_ok
coordinate-requires-2 c =
    let t = c.args.coordinates.now in
    ap finite_bits c.word_at-2.ensures ∙ (and_both (finite_bits (x_bits t c.args.v)) (finite_bits (y_bits t c.args.v)) c.requires.1).1

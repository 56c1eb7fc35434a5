-- `vendors::vendor_fault` meets its contract: both tables are one row, with the seeds and the D of the query. Assumes nothing.
use mathlib.Core.Path.{◌≡◌, ap, ◌∙◌}
use Rattle.words.specs.Told.{told}
use Rattle.vendors.specs.Ends.{seeds_of}
use Rattle.vendors.proofs.AllRecords.{ends, sound, led, passes-few, vertices-low, road-low, seeds-low, ends-needed, list-told}
use Rattle.vendors.proofs.vendor_fault.Goals as goal

pub read_road-road-requires : goal.read_road-road-requires
read_road-road-requires c =
    let a = c.args in
    let m = c.allowed-allowed in
    road-low a.hop_size c.requires.1 a.vertices.now a.walks.now a.hops.now a.q c.requires.0 m.result.0 m.ensures

pub read_seeds-ends-requires : goal.read_seeds-ends-requires
read_seeds-ends-requires c =
    let a = c.args in
    let m = c.allowed-allowed in
    seeds-low a.hop_size c.requires.1 a.vertices.now a.walks.now a.hops.now a.q c.requires.0 m.result.0 m.ensures c.read_road-road.result c.read_road-road.ensures

pub list_fault-requires : goal.list_fault-requires
list_fault-requires c =
    let a = c.args in
    let m = c.allowed-allowed in
    let e : c.read_seeds-ends.result ≡ ends a.hop_size c.requires.1 a.vertices.now a.walks.now a.hops.now a.q c.requires.0 m.result.0 m.ensures = c.read_seeds-ends.ensures ∙ ap (seeds_of a.walks.now) c.read_road-road.ensures in record {
      sound = (sound a.hop_size c.requires.1 a.vertices.now a.walks.now a.hops.now a.q c.requires.0 m.result.0 m.ensures, passes-few a.hop_size c.requires.1 a.vertices.now a.walks.now a.hops.now a.q c.requires.0 m.result.0 m.ensures, vertices-low a.hop_size c.requires.1 a.vertices.now a.walks.now a.hops.now a.q c.requires.0 m.result.0 m.ensures);
      led = led a.hop_size c.requires.1 a.vertices.now a.walks.now a.hops.now a.q c.requires.0 m.result.0 m.ensures;
      from_bound = ends-needed a.hop_size c.requires.1 a.vertices.now a.walks.now a.hops.now a.q c.requires.0 m.result.0 m.ensures c.read_seeds-ends.result e;
    }

pub returns : goal.returns
returns c =
    let a = c.args in
    let m = c.allowed-allowed in
    let e : c.read_seeds-ends.result ≡ ends a.hop_size c.requires.1 a.vertices.now a.walks.now a.hops.now a.q c.requires.0 m.result.0 m.ensures = c.read_seeds-ends.ensures ∙ ap (seeds_of a.walks.now) c.read_road-road.ensures in
    list-told a.hop_size c.requires.1 a.vertices.now a.walks.now a.hops.now a.q c.requires.0 m.result.0 m.ensures a.list.now (told c.list_fault.result) c.read_seeds-ends.result e c.list_fault.ensures

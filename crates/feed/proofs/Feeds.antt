-- The small feeds of specs/Feeds give what their table says. Assumes nothing.
use mathlib.Core.Path.{◌≡◌, refl, ap, ◌∙◌}
use mathlib.Core.Logic.{inl, inr}
use mathlib.Core.Bool.{Bool, true, ◌&&◌}
use mathlib.Core.List.{List, [], ◌∷◌, ◌++◌, flat_map}
use Rattle.journeys.specs.Counting.{In, joined}
use Rattle.journeys.specs.Bytes.{word, filled, cleared}
use Rattle.journeys.specs.Refusals.{unless, or_else, first_from, whole_of, table_of}
use Rattle.journeys.proofs.Cases.{same, every, each-passes, same-is}
use Rattle.feed.specs.Lines.{empty, ends_now, onto, lines_of, place, first_bad_line}
use Rattle.feed.specs.Fields.{onto_first, row, row_of, same as same_field}
use Rattle.feed.specs.Values.{digit, digits, value_from, value_of, number, time, seconds_of, time_or_blank}
use Rattle.feed.specs.Ids.{list_line, ids_refusal, names, first_naming, number_in, line_of, number_of, known}
use Rattle.feed.specs.Stops.{times, column_from, column, header, columns_once, header_refusal, in_column, stop_line, ids_known, below, lines_refusal, known_refusal, or_other, stop_of, stops_from, stops_of}
use Rattle.feed.specs.Trips.{some, beyond, earlier, between, next, repeats, once, too_soon, in_time, first_bad_stop, hop, hop_to, hops_to, hops_of}
use Rattle.feed.specs.Answers.{feed_hops, feed_refusal, hop_count, target_after}
use Rattle.feed.specs.Feeds.{Case, shown, readings, refusals, feeds}

passes : Case → Bool
passes c = same (shown c.lent) c.want

table : every passes feeds ≡ true
unfolding passes shown readings refusals feeds feed_hops feed_refusal hop_count target_after some beyond earlier between next repeats once too_soon in_time first_bad_stop hop hop_to hops_to hops_of times column_from column header columns_once header_refusal in_column stop_line ids_known below lines_refusal known_refusal or_other stop_of stops_from stops_of list_line ids_refusal names first_naming number_in line_of number_of known digit digits value_from value_of number time seconds_of time_or_blank onto_first row row_of same_field empty ends_now onto lines_of place first_bad_line unless or_else first_from whole_of table_of word filled cleared joined flat_map
table = refl

-- Each feed of the table has the answer that stands beside it.
pub feed-cases : (c : Case) → In c feeds → shown c.lent ≡ c.want
unfolding passes
feed-cases c i = same-is _ c.want (each-passes passes feeds table c i)

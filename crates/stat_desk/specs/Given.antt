-- What the reads of a desk gave, as it keeps it.
use Rattle.std.specs.Prelude.{List, map}
use Rattle.stat_desk.specs.Desk.{Bytes, ReadResult, TooLong}
use Rattle.stat_desk.specs.declared.given.Given.{Given}
use Rattle.stat_desk.specs.declared.given.Given.TheVariants.{Bytes as GivenBytes, TooLong as GivenTooLong}

abbrev pub result_of : Given → ReadResult
result_of (GivenBytes history) = Bytes history.bytes
result_of (GivenTooLong history) = TooLong history.bytes

abbrev pub results_of : List Given → List ReadResult
results_of = map result_of

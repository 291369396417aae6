-- The codes of advice: the file under which each stands, its number and its text. They are this toolkit's own.
use Rattle.std.specs.Prelude.{ℕ, List, codes}
use Rattle.gtfs_advice.specs.declared.code.Code.{Code}
use Rattle.gtfs_advice.specs.declared.code.Code.TheVariants as code
use Rattle.gtfs_table.specs.declared.file.File.{File}
use Rattle.gtfs_table.specs.declared.file.File.TheVariants as file

abbrev pub file_of : Code → File
file_of code.AgencyWithoutRoute = file.Agency
file_of code.AddressWithoutScheme = file.Agency
file_of code.GarbledAgency = file.Agency
file_of code.StopWithoutTrip = file.Stops
file_of code.StationWithoutStop = file.Stops
file_of code.StopNearZeroOrPole = file.Stops
file_of code.StopFarFromParent = file.Stops
file_of code.GarbledStop = file.Stops
file_of code.RouteWithoutTrip = file.Routes
file_of code.RouteNamedAsAnother = file.Routes
file_of code.LongShortName = file.Routes
file_of code.RepeatedShortName = file.Routes
file_of code.CloseColours = file.Routes
file_of code.DirectionOfSomeTrips = file.Routes
file_of code.GarbledRoute = file.Routes
file_of code.TripWithoutHeadsign = file.Trips
file_of code.TripAsAnother = file.Trips
file_of code.GarbledTrip = file.Trips
file_of code.StopTwiceInARow = file.StopTimes
file_of code.SixStopsAtOneMoment = file.StopTimes
file_of code.FasterThanATrain = file.StopTimes
file_of code.NobodyGetsOnOrOff = file.StopTimes
file_of code.LongerThanADay = file.StopTimes
file_of code.ServiceWithoutTrip = file.Calendar
file_of code.GapInService = file.Calendar
file_of code.EndOfService = file.Calendar
file_of code.DatesWithoutTrip = file.CalendarDates
file_of code.PeriodOfOneRun = file.Frequencies

-- a code's place among all codes, in their order
abbrev pub advice_rank : Code → ℕ
advice_rank code.AgencyWithoutRoute = 0
advice_rank code.AddressWithoutScheme = 1
advice_rank code.GarbledAgency = 2
advice_rank code.StopWithoutTrip = 3
advice_rank code.StationWithoutStop = 4
advice_rank code.StopNearZeroOrPole = 5
advice_rank code.StopFarFromParent = 6
advice_rank code.GarbledStop = 7
advice_rank code.RouteWithoutTrip = 8
advice_rank code.RouteNamedAsAnother = 9
advice_rank code.LongShortName = 10
advice_rank code.RepeatedShortName = 11
advice_rank code.CloseColours = 12
advice_rank code.DirectionOfSomeTrips = 13
advice_rank code.GarbledRoute = 14
advice_rank code.TripWithoutHeadsign = 15
advice_rank code.TripAsAnother = 16
advice_rank code.GarbledTrip = 17
advice_rank code.StopTwiceInARow = 18
advice_rank code.SixStopsAtOneMoment = 19
advice_rank code.FasterThanATrain = 20
advice_rank code.NobodyGetsOnOrOff = 21
advice_rank code.LongerThanADay = 22
advice_rank code.ServiceWithoutTrip = 23
advice_rank code.GapInService = 24
advice_rank code.EndOfService = 25
advice_rank code.DatesWithoutTrip = 26
advice_rank code.PeriodOfOneRun = 27

abbrev pub advice_name : Code → List ℕ
advice_name code.AgencyWithoutRoute = codes "A01"
advice_name code.AddressWithoutScheme = codes "A02"
advice_name code.GarbledAgency = codes "A24"
advice_name code.StopWithoutTrip = codes "A03"
advice_name code.StationWithoutStop = codes "A04"
advice_name code.StopNearZeroOrPole = codes "A05"
advice_name code.StopFarFromParent = codes "A06"
advice_name code.GarbledStop = codes "A24"
advice_name code.RouteWithoutTrip = codes "A07"
advice_name code.RouteNamedAsAnother = codes "A08"
advice_name code.LongShortName = codes "A09"
advice_name code.RepeatedShortName = codes "A10"
advice_name code.CloseColours = codes "A11"
advice_name code.DirectionOfSomeTrips = codes "A12"
advice_name code.GarbledRoute = codes "A24"
advice_name code.TripWithoutHeadsign = codes "A13"
advice_name code.TripAsAnother = codes "A14"
advice_name code.GarbledTrip = codes "A24"
advice_name code.StopTwiceInARow = codes "A15"
advice_name code.SixStopsAtOneMoment = codes "A16"
advice_name code.FasterThanATrain = codes "A17"
advice_name code.NobodyGetsOnOrOff = codes "A18"
advice_name code.LongerThanADay = codes "A19"
advice_name code.ServiceWithoutTrip = codes "A21"
advice_name code.GapInService = codes "A22"
advice_name code.EndOfService = codes "A23"
advice_name code.DatesWithoutTrip = codes "A21"
advice_name code.PeriodOfOneRun = codes "A20"

abbrev pub advice_text : Code → List ℕ
advice_text code.AgencyWithoutRoute = codes "no route"
advice_text code.AddressWithoutScheme = codes "address without http"
advice_text code.GarbledAgency = codes "garbled letters"
advice_text code.StopWithoutTrip = codes "no trip stops here"
advice_text code.StationWithoutStop = codes "no stop belongs to it"
advice_text code.StopNearZeroOrPole = codes "near 0,0 or a pole"
advice_text code.StopFarFromParent = codes "far from its parent"
advice_text code.GarbledStop = codes "garbled letters"
advice_text code.RouteWithoutTrip = codes "no trip"
advice_text code.RouteNamedAsAnother = codes "named as another one"
advice_text code.LongShortName = codes "short name over 12 characters"
advice_text code.RepeatedShortName = codes "long name repeats the short one"
advice_text code.CloseColours = codes "colours hard to tell apart"
advice_text code.DirectionOfSomeTrips = codes "direction of some trips only"
advice_text code.GarbledRoute = codes "garbled letters"
advice_text code.TripWithoutHeadsign = codes "no headsign"
advice_text code.TripAsAnother = codes "same as another one"
advice_text code.GarbledTrip = codes "garbled letters"
advice_text code.StopTwiceInARow = codes "stops twice in a row"
advice_text code.SixStopsAtOneMoment = codes "six stops at one moment"
advice_text code.FasterThanATrain = codes "faster than 500 km/h"
advice_text code.NobodyGetsOnOrOff = codes "nobody gets on or off"
advice_text code.LongerThanADay = codes "longer than a day"
advice_text code.ServiceWithoutTrip = codes "no trip"
advice_text code.GapInService = codes "no service for two weeks"
advice_text code.EndOfService = codes "fewer than seven days left"
advice_text code.DatesWithoutTrip = codes "no trip"
advice_text code.PeriodOfOneRun = codes "one run alone"

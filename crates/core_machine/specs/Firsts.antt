-- What the first target of a client asks for.
use Rattle.std.specs.Prelude.{◌<◌, List, length}
use Rattle.std.specs.List.{AllByRecursion}
use Rattle.shape_base.specs.declared.served.Served.{Served}
use Rattle.http_edge.specs.declared.error_code.ErrorCode.{ErrorCode}
use Rattle.http_edge.specs.declared.error_code.ErrorCode.TheVariants as codes
use Rattle.http_edge.specs.declared.refusal.Refusal.{Refusal}
use Rattle.http_edge.specs.declared.refusal.Refusal.TheVariants as refusals
use Rattle.http_edge.specs.Lawful.{Asked, Refuses, AsksFor}
use Rattle.core_machine.specs.declared.first.First.{First}
use Rattle.core_machine.specs.declared.first.First.TheVariants as firsts

-- the code with which what is routed is refused
abbrev pub code_of : Refusal → ErrorCode
code_of refusals.MethodRefused = codes.MethodRefused
code_of refusals.PathUnknown = codes.PathUnknown
code_of refusals.BadEscape = codes.BadEscape
code_of refusals.RepeatedParameter = codes.RepeatedParameter
code_of refusals.MissingTable = codes.MissingTable
code_of refusals.TableNotServed = codes.TableNotServed
code_of refusals.WhereTooLong = codes.WhereTooLong
code_of (refusals.WhereSyntax place) = codes.WhereSyntax place
code_of refusals.BadOffset = codes.BadOffset
code_of refusals.HandleNeeded = codes.HandleNeeded
code_of refusals.LiveAtStart = codes.LiveAtStart
code_of refusals.OutOfMemory = codes.OutOfMemory

abbrev pub first_asked : First → Asked
first_asked (firsts.Refused refusal) = Refuses (code_of refusal)
first_asked (firsts.AsksFor ask) = AsksFor ask

-- what is asked for is of one of these tables
abbrev pub IsServedFirst : List Served → First → Type 0
IsServedFirst tables (firsts.Refused refusal) = Unit {0}
IsServedFirst tables (firsts.AsksFor ask) = ask.table < length tables

abbrev pub AreServed : List Served → List First → Type 0
AreServed tables firsts = AllByRecursion (IsServedFirst tables) firsts

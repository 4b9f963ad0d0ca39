-- What registering a shape for a request leaves, and why it is refused.
use Rattle.std.specs.Prelude.{◌≡◌, ℕ, ◌+◌, Bool, true, false, length, Option, None, Some, slice_get}
use Rattle.shape_base.specs.declared.ask.Ask.{Ask}
use Rattle.shape_json.specs.ShapeHistory.{Reader}
use Rattle.shape_def.specs.declared.faults.DefError.{DefError}
use Rattle.shape_def.specs.declared.faults.DefError.TheVariants as definitions
use Rattle.http_edge.specs.declared.error_code.ErrorCode.{ErrorCode}
use Rattle.http_edge.specs.Lawful.{definition_code, refusal_under, refusal_to_register}
use Rattle.core_law.specs.Situation.{Options, known_of, reader_for}
use Rattle.core_law.specs.Situation as law
use Rattle.core_law.specs.Steps.{with_shape}
use Rattle.core_server.specs.declared.server.Server.{Server}
use Rattle.core_server.specs.declared.registering.RegisterError.{RegisterError}
use Rattle.core_server.specs.declared.registering.RegisterError.TheVariants as errors
use Rattle.shape_base.specs.RegistryHistory.{definition_after}
use Rattle.shape_def.specs.declared.defining.Def.{Def}
use Rattle.shape_registry.specs.declared.refusal.RegisterError as numbers
use Rattle.shape_registry.specs.declared.refusal.RegisterError.TheVariants as no_number
use Rattle.core_server.specs.Standing.{reader_of, Stands}

-- why the definition for a request is refused
abbrev pub definition_refusal : Options → law.Server → Ask → Option ErrorCode
definition_refusal o v ask = refusal_under ask (slice_get o.tables ask.table) (definition_after o.catalog v.registry ask.table)

-- the definition for a request: it is not refused, and reads rows as the request's reader does
pub record IsDefinedFor (o : Options) (v : law.Server) (ask : Ask) (t : Def) : Type 0 where
  pub allowed : definition_refusal o v ask ≡ None
  pub reads : reader_for o v.registry ask ≡ Some (reader_of t)

-- A shape was registered for a request: nothing refuses it, it has the next number, and the server stands for the situation with it.
pub record IsRegistered (o : Options) (v : law.Server) (ask : Ask) (new : Server) (number : ℕ) : Type 0 where
  pub allowed : refusal_to_register (known_of o v) v.registry ask ≡ None
  pub next : number ≡ length v.shapes + 1
  pub reader : Reader
  pub reads : reader_for o v.registry ask ≡ Some reader
  pub stands : Stands o (with_shape v ask reader) new

-- the refusal is that one; want of memory comes free
abbrev pub IsRegisterError : Option ErrorCode → RegisterError → Type 0
IsRegisterError refusal (errors.Refused code) = refusal ≡ Some code
IsRegisterError refusal errors.OutOfMemory = Unit {0}

-- why there is no definition, as an error of registering
abbrev pub error_of : DefError → RegisterError
error_of definitions.OutOfMemory = errors.OutOfMemory
error_of definitions.KeyMissing = errors.Refused (definition_code definitions.KeyMissing)
error_of (definitions.UnknownColumn atom) = errors.Refused (definition_code (definitions.UnknownColumn atom))
error_of definitions.KeyNotSelected = errors.Refused (definition_code definitions.KeyNotSelected)
error_of (definitions.Syntax place) = errors.Refused (definition_code (definitions.Syntax place))
error_of (definitions.TooDeep place) = errors.Refused (definition_code (definitions.TooDeep place))
error_of (definitions.TypeMismatch atom) = errors.Refused (definition_code (definitions.TypeMismatch atom))
error_of (definitions.BadLiteral atom) = errors.Refused (definition_code (definitions.BadLiteral atom))

-- memory was wanted for a number
abbrev pub is_memory : {K : Type 0} → numbers.RegisterError K → Bool
is_memory (no_number.Exists number kept) = false
is_memory (no_number.TooMany many most kept) = false
is_memory (no_number.NumbersSpent kept) = false
is_memory (no_number.OutOfMemory kept) = true

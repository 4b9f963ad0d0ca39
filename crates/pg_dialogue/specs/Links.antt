-- What a call on a link takes from it and writes to it.
use Rattle.std.specs.Prelude.{◌≡◌, ◌⊎◌, ℕ, ◌+◌, ◌-◌, ◌<◌, Bool, true, false, List, [], ◌++◌, length, take, drop, Option, None, Some, Result, Ok, Err}
use Rattle.shape_base.specs.Outside.{AddsFront}
use Rattle.pg_dialogue.specs.declared.wire_error.WireError.{WireError}
use Rattle.pg_dialogue.specs.declared.wire_error.WireError.TheVariants.{OutOfMemory, LinkFault, Ended, ErrorResponse, BadReply, AuthWanted, NotUtf8, TooLong}
use Rattle.pg_dialogue.specs.declared.wanted.Told.{Told}
use Rattle.pg_dialogue.specs.Messages.{Said, Silent, Broken, Says, said}
use Rattle.pg_dialogue.specs.Dialogue.{Heard, Met, ended, Ends}

-- Of what is left in the link, what a dialogue may have that was given so many bytes: no more than 68,719,476,736 bytes in all.
abbrev pub within : ℕ → List ℕ → List ℕ
within place left = take (68719476736 - place) left

-- what the server will say
abbrev pub to_come : ℕ → List ℕ → Said
to_come place left = said place (within place left)

-- what was given in between
abbrev pub since : List ℕ → List ℕ → List ℕ
since given given' = drop (length given) given'

-- Bytes went over from what is left to what was given, and each counts.
pub record Takes (given left : List ℕ) (place : ℕ) (given' left' : List ℕ) (place' : ℕ) : Type 0 where
  pub came : given' ≡ given ++ since given given'
  pub gone : left ≡ since given given' ++ left'
  pub size : place' ≡ place + length (since given given')

-- More is wanted, and this is what comes of it: so many bytes of those that are wanted came, and the link gives no more, or a dialogue may have no more.
pub record IsShort (error : WireError) (place : ℕ) (left : List ℕ) (have want : ℕ) : Type 0 where
  pub is : ended place ≡ error
  pub nothing_left : within place left ≡ []
  pub few : have < want

abbrev pub Stops : WireError → ℕ → List ℕ → ℕ → ℕ → Type 0
Stops error place left have want = (error ≡ OutOfMemory) ⊎ ((error ≡ LinkFault) ⊎ IsShort error place left have want)

-- why no message comes
abbrev pub stop_of : Said → Option WireError
stop_of (Silent place) = Some (ended place)
stop_of (Broken place) = Some (BadReply place)
stop_of (Says place kind payload rest) = None

abbrev pub StopsSaid : WireError → Said → Type 0
StopsSaid error said = (error ≡ OutOfMemory) ⊎ ((error ≡ LinkFault) ⊎ (stop_of said ≡ Some error))

-- What a call read: it has what it waited for, and no byte more was taken; or this is why not.
abbrev pub Reads : {A : Type 0} → Result A WireError → Heard → Told → ℕ → Said → Type 0
Reads (Ok x) heard told place rest = heard ≡ Met told place rest
Reads (Err error) heard told place rest = Ends error heard

-- memory ran out, or the link failed: it is not the server's doing
abbrev pub is_outside : WireError → Bool
is_outside OutOfMemory = true
is_outside LinkFault = true
is_outside (Ended place) = false
is_outside (ErrorResponse sqlstate) = false
is_outside (BadReply place) = false
is_outside (AuthWanted code) = false
is_outside (NotUtf8 place) = false
is_outside (TooLong limit) = false

abbrev pub WritesBy : Bool → List ℕ → List ℕ → List ℕ → Type 0
WritesBy true old new piece = AddsFront old new piece
WritesBy false old new piece = new ≡ old ++ piece

-- all of a piece was written, or a front of it where memory ran out or the link failed
abbrev pub Writes : {A : Type 0} → Result A WireError → List ℕ → List ℕ → List ℕ → Type 0
Writes (Ok x) old new piece = new ≡ old ++ piece
Writes (Err error) old new piece = WritesBy (is_outside error) old new piece

-- What the program's arguments ask for. All of this is this project's own choice.
use Rattle.std.specs.Prelude.{ℕ, List, String, drop, map, string_bytes}
use Rattle.std.specs.declared.io.ErrorKind.{ErrorKind}
use Rattle.std.specs.declared.io.ErrorKind.TheVariants.{InvalidData}
use Rattle.run_replies.specs.declared.status.Status.{Status}
use Rattle.run_replies.specs.declared.status.Status.TheVariants.{NoMemory, Usage}

-- the words of the command line: the arguments behind the program's name
abbrev pub words_of : {A : Type 0} → List (String A) → List (List ℕ)
words_of arguments = map string_bytes (drop 1 arguments)

-- the status if the arguments can't be read: one that isn't UTF-8 is no word of the program
abbrev pub unread_status : ErrorKind → Status
unread_status InvalidData = Usage
unread_status kind = NoMemory

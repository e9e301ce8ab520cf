-- What is done where no connection could be accepted, by Linux's numbers of errors.
use Rattle.std.specs.Prelude.{ℕ, ◌==◌, Bool, ◌||◌, Option, Some, None, if◌then◌else◌}
use Rattle.grove_serve.specs.declared.remedy.Remedy.{Remedy}
use Rattle.grove_serve.specs.declared.remedy.Remedy.TheVariants.{Again, Await, Stop}
use Rattle.grove_serve.specs.declared.remedy.Lack.TheVariants.{Descriptor, Memory}

-- EBADF, EINVAL and ENOTSOCK: what is listened on is no listener
abbrev pub is_lasting : ℕ → Bool
is_lasting n = n == 9 || n == 22 || n == 88

-- ENFILE and EMFILE
abbrev pub lacks_descriptor : ℕ → Bool
lacks_descriptor n = n == 23 || n == 24

-- ENOMEM and ENOBUFS
abbrev pub lacks_memory : ℕ → Bool
lacks_memory n = n == 12 || n == 105

-- any other error is of one connection, or passes: the next one is accepted
abbrev pub remedy_of : Option ℕ → Remedy
remedy_of None = Again
remedy_of (Some n) =
    if is_lasting n then Stop
    else if lacks_descriptor n then Await Descriptor
    else if lacks_memory n then Await Memory
    else Again

-- A run in which a call was aborted.
use Rattle.std.specs.Prelude.{◌≡◌, ◌⊎◌, List, ◌∷◌, ◌++◌}
use Rattle.std.specs.declared.io.ErrorKind.TheVariants as kinds
use Rattle.ftp_base.specs.declared.types.fault.FtpError.{FtpError}
use Rattle.ftp_base.specs.declared.types.fault.FtpError.TheVariants.{ConnectionError, OutOfMemory}
use Rattle.ftp_base.specs.declared.types.fault.ConnectionError.TheVariants.{Io}
use Rattle.ftp_calls.specs.declared.call.Answer.{Answer}
use Rattle.ftp_calls.specs.declared.call.Answer.TheVariants.{Fault}

-- memory ran out, in the session or in a write to its connection
abbrev pub MayAbort : FtpError → Type 0
MayAbort fault = (fault ≡ OutOfMemory) ⊎ (fault ≡ ConnectionError (Io kinds.OutOfMemory))

-- some call was aborted, and for no other cause
pub record WasAborted (answers : List Answer) : Type 0 where
  pub first : List Answer
  pub later : List Answer
  pub fault : FtpError
  pub is : answers ≡ first ++ Fault fault ∷ later
  pub cause : MayAbort fault

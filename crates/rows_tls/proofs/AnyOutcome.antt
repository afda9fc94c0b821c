-- Of a transport of which nothing is on record.
use Rattle.std.proofs.Common.{None, Result, Ok, Err, inl}
use Rattle.ftp_base.specs.declared.types.fault.FtpError.{FtpError}
use Rattle.ftp_secure.specs.Gone.{gone_after}
use Rattle.ftp_secure.specs.Securing.{SecuresBy}
use Rattle.ftp_transport.specs.Told.{Told}

-- putting a connection under TLS may result in anything
pub secures_any : (result : Result Told FtpError) → SecuresBy (λ _. Unit {0}) (λ _ _. Unit {0}) result
secures_any (Ok told) = (gone_after 0 None, tt, tt)
secures_any (Err fault) = inl tt

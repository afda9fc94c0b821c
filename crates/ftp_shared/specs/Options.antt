-- What makes a client.
use Rattle.std.specs.Prelude.{◌≡◌, ℕ, List, None, false, string_bytes}
use Rattle.ftp_base.specs.declared.types.file_type.FileType.TheVariants.{Binary}
use Rattle.ftp_base.specs.declared.types.mode.Mode.TheVariants.{Automatic}
use Rattle.ftp_shared.specs.declared.connect_options.ConnectOptions.{ConnectOptions}

-- options as they begin, for a client at this address that logs in by this name and secret
pub record AreNew (options : ConnectOptions) (place name secret : List ℕ) : Type 0 where
  pub address : string_bytes options.address ≡ place
  pub user : string_bytes options.user ≡ name
  pub password : string_bytes options.password ≡ secret
  pub limit : options.limit ≡ None
  pub mode : options.mode ≡ Automatic
  pub file_type : options.file_type ≡ Binary
  pub lenient : options.lenient ≡ false
  pub utf8 : options.utf8 ≡ false

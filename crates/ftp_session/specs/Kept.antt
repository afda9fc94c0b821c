-- What a call leaves of a session beside its dialogues: RFC 959 knows nothing of it.
use Rattle.std.specs.Prelude.{◌≡◌}
use Rattle.ftp_session.specs.declared.session.client.Session.{Session}

-- the encoding and the builder that its caller chose
pub record KeepsChoices {A B C D E F : Type 0} (old new : Session A B C D E F) : Type 0 where
  pub encoding : new.encoding ≡ old.encoding
  pub builder : new.builder ≡ old.builder

-- and the mark of the transfer before the one that was handed out last
pub record Keeps {A B C D E F : Type 0} (old new : Session A B C D E F) : Type 0 where
  pub encoding : new.encoding ≡ old.encoding
  pub builder : new.builder ≡ old.builder
  pub former : new.former ≡ old.former

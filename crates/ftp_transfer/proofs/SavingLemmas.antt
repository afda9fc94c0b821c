-- Lemmas on a download that goes to a caller's writer.
use Rattle.std.proofs.Common.{◌≡◌, ◌<◌, ◌+◌, ◌⊎◌, ◌==◌, ℕ, Bool, true, false, List, [], ◌++◌, Option, Result, Ok, Err, inl, inr, refl, ap, sym, subst, ◌∙◌, length, take, arith, append_assoc, append-nil}
use Rattle.std.proofs.lemmas.List.{length-append}
use Rattle.std.proofs.KnownBytes.{Appends-nil, Appends-trans}
use Rattle.std.specs.Io.KnownBytes.{Appends}
use Rattle.std.specs.Prelude.{IsErr, IsErrAnd, if◌then◌else◌}
use Rattle.std.proofs.lemmas.Bool.{eqb-true}
use Rattle.std.specs.declared.io.ErrorKind.{ErrorKind}
use Rattle.ftp_base.specs.Ascii.{AppendsFront}
use Rattle.ftp_base.specs.declared.types.fault.FtpError.{FtpError}
use Rattle.ftp_base.specs.declared.types.fault.FtpError.TheVariants.{ConnectionError}
use Rattle.ftp_base.specs.declared.types.fault.ConnectionError.TheVariants.{Io, SourceTooLarge}
use Rattle.ftp_transport.specs.Told.{HasFailed, Told, after_end, after_read}
use Rattle.ftp_transfer.specs.Saving.{EndsEarly, Gave, SaveFails, Saves, StopsAt}
use Rattle.ftp_transfer.specs.Transfer.{TransferValue, with_told}

-- a read that gave bytes
pub some_read : (count : ℕ) (buffer : List ℕ) (t u : Told) → (count ≡ 0 → ⊥) → u ≡ (if count == 0 then after_end t else after_read (take count buffer) t) → u ≡ after_read (take count buffer) t
some_read count buffer t u some read = go (count == 0) refl
  where
    go : (b : Bool) → (count == 0) ≡ b → u ≡ after_read (take count buffer) t
    go true same = absurd (some (eqb-true count 0 same))
    go false same = rw same at read

-- all that a transfer gave so far was written
pub record SavedSoFar (tells : Type 0) (writer writer' : Option (List ℕ)) (old new : TransferValue) (count : ℕ) : Type 0 where
  pub given : List ℕ
  pub gave : Gave tells given old new
  pub calm : tells → new.told.failures ≡ old.told.failures
  pub wrote : Appends writer writer' given
  pub counted : count ≡ length given

-- nothing came yet
pub gave_none : (tells : Type 0) (t : TransferValue) → Gave tells [] t t
gave_none tells t = record { received = λ h. sym (append-nil t.told.received); kept = refl }

pub saved_none : (tells : Type 0) (w : Option (List ℕ)) (t : TransferValue) → SavedSoFar tells w w t t 0
saved_none tells w t = record { given = []; gave = gave_none tells t; calm = λ h. refl; wrote = Appends-nil w; counted = refl }

module _ (tells : Type 0) (w v : Option (List ℕ)) (old mid new : TransferValue) (count : ℕ) (far : SavedSoFar tells w v old mid count) (kept : new ≡ with_told new.told mid) where
  stays : new ≡ with_told new.told old
  stays = kept ∙ ap (with_told new.told) far.gave.kept

  -- a piece came
  gave_more : (piece : List ℕ) → (tells → new.told ≡ after_read piece mid.told) → Gave tells (far.given ++ piece) old new
  gave_more piece came = record {
    received = λ h. ap (λ t. t.received) (came h) ∙ ap (λ l. l ++ piece) (far.gave.received h) ∙ append_assoc old.told.received far.given piece;
    kept = stays;
  }

  -- and was written
  pub saved_more : (piece : List ℕ) (u : Option (List ℕ)) (size : ℕ) → (tells → new.told ≡ after_read piece mid.told) → Appends v u piece → size ≡ count + length piece → SavedSoFar tells w u old new size
  saved_more piece u size came wrote sum = record {
    given = far.given ++ piece;
    gave = gave_more piece came;
    calm = λ h. ap (λ t. t.failures) (came h) ∙ far.calm h;
    wrote = Appends-trans w v u far.given piece far.wrote wrote;
    counted = sum ∙ ap (λ n. n + length piece) far.counted ∙ sym (length-append far.given piece);
  }

  -- the data connection failed
  pub data_fails : (kind : ErrorKind) → (tells → HasFailed kind mid.told new.told) → SaveFails tells w v old new (ConnectionError (Io kind))
  data_fails kind failed = record {
    given = far.given;
    gave = record { received = λ h. ap (λ t. t.received) (failed h).same ∙ far.gave.received h; kept = stays };
    cause = inl early;
    own = inr early;
  }
    where
      counted : mid.told.failures ≡ old.told.failures → (mid.told.failures < new.told.failures) ⊎ (new.told.failures ≡ 18446744073709551615) → (old.told.failures < new.told.failures) ⊎ (new.told.failures ≡ 18446744073709551615)
      counted same (inl more) = inl (omega (arith, same, more))
      counted same (inr full) = inr full

      early : Appends w v far.given × EndsEarly tells old new (ConnectionError (Io kind))
      early = (far.wrote, inr (kind, refl, λ h. (counted (far.calm h) (failed h).counts.0, (failed h).counts.1)))

  -- the writer stops: a front of what came was written
  stops : (piece : List ℕ) (u : Option (List ℕ)) (fault : FtpError) → (tells → new.told ≡ after_read piece mid.told) → AppendsFront v u piece → StopsAt (far.given ++ piece) fault → SaveFails tells w u old new fault
  stops piece u fault came (front, rest, parts, wrote) is = record {
    given = far.given ++ piece;
    gave = gave_more piece came;
    cause = inr ((far.given ++ front, rest, ap (λ l. far.given ++ l) parts ∙ sym (append_assoc far.given front rest), Appends-trans w v u far.given front far.wrote wrote), is);
    own = inl (λ h. ap (λ t. t.failures) (came h) ∙ far.calm h);
  }

  -- the writer failed
  pub writer_fails : (piece : List ℕ) (u : Option (List ℕ)) (kind : ErrorKind) → (tells → new.told ≡ after_read piece mid.told) → AppendsFront v u piece → SaveFails tells w u old new (ConnectionError (Io kind))
  writer_fails piece u kind came wrote = stops piece u (ConnectionError (Io kind)) came wrote (inl (kind, refl))

  -- more came than can be counted, and nothing of the piece was written
  pub too_much : (piece : List ℕ) (fault : FtpError) → (tells → new.told ≡ after_read piece mid.told) → fault ≡ ConnectionError SourceTooLarge → 9223372036854775807 < count + length piece → SaveFails tells w v old new fault
  too_much piece fault came is more = stops piece v fault came ([], piece, refl, Appends-nil v) (inr (is, subst (λ n. 9223372036854775807 < n) (ap (λ n. n + length piece) far.counted ∙ sym (length-append far.given piece)) more))

-- a download that fails answers that
pub save_fails_as : (tells : Type 0) (w u : Option (List ℕ)) (old new : TransferValue) (fault : FtpError) (result : Result ℕ FtpError) → IsErr result → IsErrAnd result (λ f. f ≡ fault) → SaveFails tells w u old new fault → Saves tells w u old new result
save_fails_as tells w u old new fault (Ok count) fails is failed = let clash : false ≡ true = fails in cc
save_fails_as tells w u old new fault (Err other) fails is failed = subst (λ f. SaveFails tells w u old new f) (sym is) failed

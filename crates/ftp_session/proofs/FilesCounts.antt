-- Failures that are counted while a whole file is moved.
use Rattle.std.proofs.Common.{◌≡◌, ℕ, Bool, true, false, List, Option, Some, Result, Ok, Err, inl, inr, ◌⊎◌, ap, sym, ◌∙◌, subst}
use Rattle.std.specs.Prelude.{IfErr}
use Rattle.std.specs.Io.KnownBytes.{Appends}
use Rattle.std.specs.declared.io.ErrorKind.{ErrorKind}
use Rattle.ftp_base.specs.Ascii.{AppendsFront, IsCopyFault, wire_data}
use Rattle.ftp_base.specs.declared.types.fault.ConnectionError.TheVariants as cause
use Rattle.ftp_base.specs.declared.types.fault.FtpError.{FtpError}
use Rattle.ftp_base.specs.declared.types.fault.FtpError.TheVariants as faults
use Rattle.ftp_calls.specs.declared.call.Answer.{Answer}
use Rattle.ftp_calls.specs.declared.call.Answer.TheVariants.{Fault, Opened}
use Rattle.ftp_calls.specs.declared.call.Call.{Call}
use Rattle.ftp_transport.specs.Told.{NoneFailed, Told}
use Rattle.ftp_transfer.specs.Mark.{End}
use Rattle.ftp_transfer.specs.Transfer.{TransferValue}
use Rattle.ftp_transfer.specs.declared.direction.Direction.{Direction}
use Rattle.ftp_transfer.specs.declared.direction.Direction.TheVariants.{Download, Upload}
use Rattle.ftp_dialogue.specs.Coding.{Coding}
use Rattle.ftp_dialogue.specs.Counted.{CountsFailure, CountsFaultsBeside, IsGivenBeside}
use Rattle.ftp_dialogue.specs.Link.{Link}
use Rattle.ftp_dialogue.specs.Sound.{cannot_open}
use Rattle.ftp_dialogue.specs.State.{SessionValue}
use Rattle.ftp_transfer.specs.Copying.{Copies, GaveUp, Hinders, Wrote, WroteFront}
use Rattle.ftp_dialogue.specs.PollCauses.{sends}
use Rattle.ftp_session.specs.Counting.{CopyStops, CountsDownload, CountsSaving, CountsUpload, CountsWhole, GivesOn, OnOpened, SaveStops}
use Rattle.ftp_session.specs.Files.{EndsDownload, EndsUpload, FinishesHeld, OpensAndReceives, OpensAndStores, Puts, PutsFrom, Receives, ReceivesFrom, ReceivesHeld, ReceivesSeen, Retrieves, Stores, StoresHeld, WritesTo, failed_if, lacks_memory, unless_failed}
use Rattle.ftp_session.specs.Handed.{OpensOne, as_seen, with_data}
use Rattle.ftp_transfer.specs.Saving.{EndsEarly, SaveFails, Saves, StopsAt}
use Rattle.ftp_dialogue.proofs.Backed.{IsGrave}
use Rattle.ftp_session.proofs.Calm.{Calm, calm_on, calm_seen}
use Rattle.ftp_session.proofs.Grounds.{none_then}
use Rattle.ftp_session.proofs.Reasons.{finish_reasons, opened_reasons, opening_results}

-- no failure was counted, and the session hasn't failed since
abbrev Kept : Type 0 → SessionValue → SessionValue → Type 0
Kept tells old new = (tells → NoneFailed old.channel.told new.channel.told) × (new.channel.failed ≡ true → old.channel.failed ≡ true)

kept_to : (link : Link) (old middle new : SessionValue) → Calm link old middle → new.channel ≡ middle.channel → Kept link.tells old new
kept_to link old middle new calm same =
    let P : Told → Type 0 = λ t. NoneFailed old.channel.told t in
    (λ h. subst P (ap (λ c. c.told) (sym same)) (calm.none h), λ f. calm.going (ap (λ c. c.failed) (sym same) ∙ f))

-- Where the error comes from

module _ (link : Link) (Gives : Type 0) (old new : SessionValue) (fault : FtpError) where
  -- the transfer gave it
  of_transfer : (IsGrave fault → Gives) → CountsWhole link Gives old new fault
  of_transfer gives = record {
    counted = λ kind is h. inr (inr (gives (subst IsGrave (sym is) tt)));
    had_failed = λ is. inr (inr (inr (gives (subst IsGrave (sym is) tt))));
  }

  -- no transfer was opened
  pub of_opening : CountsFaultsBeside link old new (Fault fault) → CountsWhole link Gives old new fault
  of_opening counts = record { counted = λ kind is h. counted kind is (counts.counted kind (ap Fault is) h); had_failed = λ is. failed is (counts.had_failed (ap Fault is)) }
    where
      P : FtpError → Type 0
      P f = IsGivenBeside link f old.net new.net

      counted : (kind : ErrorKind) → fault ≡ faults.ConnectionError (cause.Io kind) → CountsFailure old.channel.told new.channel.told ⊎ IsGivenBeside link (faults.ConnectionError (cause.Io kind)) old.net new.net → CountsFailure old.channel.told new.channel.told ⊎ IsGivenBeside link fault old.net new.net ⊎ Gives
      counted kind is (inl more) = inl more
      counted kind is (inr gives) = inr (inl (subst P (sym is) gives))

      failed : fault ≡ faults.SessionFailed → (old.channel.failed ≡ true) ⊎ (cannot_open new.state.counts ≡ Some faults.SessionFailed) ⊎ IsGivenBeside link faults.SessionFailed old.net new.net → (old.channel.failed ≡ true) ⊎ (cannot_open new.state.counts ≡ Some faults.SessionFailed) ⊎ IsGivenBeside link fault old.net new.net ⊎ Gives
      failed is (inl was) = inl was
      failed is (inr (inl spent)) = inr (inl spent)
      failed is (inr (inr gives)) = inr (inr (inl (subst P (sym is) gives)))

  -- the end of the transfer gave it, on a session as one in which nothing had failed
  of_end : (ends : Link) (same : link.tells → ends.tells) (at : SessionValue) → Kept link.tells old at → CountsFaultsBeside ends at new (Fault fault) → (IsGivenBeside ends fault at.net new.net → Gives) → CountsWhole link Gives old new fault
  of_end ends same at kept counts gives = record { counted = λ kind is h. counted kind is h (counts.counted kind (ap Fault is) (same h)); had_failed = λ is. failed is (counts.had_failed (ap Fault is)) }
    where
      P : FtpError → Type 0
      P f = IsGivenBeside ends f at.net new.net

      counted : (kind : ErrorKind) → fault ≡ faults.ConnectionError (cause.Io kind) → link.tells → CountsFailure at.channel.told new.channel.told ⊎ IsGivenBeside ends (faults.ConnectionError (cause.Io kind)) at.net new.net → CountsFailure old.channel.told new.channel.told ⊎ IsGivenBeside link fault old.net new.net ⊎ Gives
      counted kind is h (inl more) = inl (none_then old.channel.told at.channel.told new.channel.told (kept.0 h) more)
      counted kind is h (inr given) = inr (inr (gives (subst P (sym is) given)))

      failed : fault ≡ faults.SessionFailed → (at.channel.failed ≡ true) ⊎ (cannot_open new.state.counts ≡ Some faults.SessionFailed) ⊎ IsGivenBeside ends faults.SessionFailed at.net new.net → (old.channel.failed ≡ true) ⊎ (cannot_open new.state.counts ≡ Some faults.SessionFailed) ⊎ IsGivenBeside link fault old.net new.net ⊎ Gives
      failed is (inl was) = inl (kept.1 was)
      failed is (inr (inl spent)) = inr (inl spent)
      failed is (inr (inr given)) = inr (inr (inr (gives (subst P (sym is) given))))

-- The end of a whole file's transfer

failed_at : (link : Link) (lost : Bool) (old last new : SessionValue) (told : Answer) → new ≡ failed_if lost last → CountsFaultsBeside link old last told → CountsFaultsBeside link old new told
failed_at link true old last new told is counts =
    let P : SessionValue → Type 0 = λ v. CountsFaultsBeside link old v told in
    subst P (sym is) (record { counted = counts.counted; had_failed = counts.had_failed })
failed_at link false old last new told is counts =
    let P : SessionValue → Type 0 = λ v. CountsFaultsBeside link old v told in
    subst P (sym is) counts

finishes_reasons : (link : Link) (coding : Coding) (held new : SessionValue) (fault : FtpError) → FinishesHeld link coding held new (Err fault) → CountsFaultsBeside link held new (Fault fault)
finishes_reasons link coding held new fault (last, plays, is) =
    failed_at link (lacks_memory (Err fault)) held last new (Fault fault) is (finish_reasons link coding held last (Fault fault) plays)

-- What stops the bytes of a file

copy_stops : (tells : Type 0) (text : Bool) (source source' : Option (List ℕ)) (old new : TransferValue) (fault : FtpError) → GaveUp tells text source source' old new fault → IsGrave fault → CopyStops tells text source source' fault old new
copy_stops tells text source source' old new fault gave grave = go gave.wrote
  where
    hinders : WroteFront tells (wire_data text gave.given) old new → Hinders tells old new fault → CopyStops tells text source source' fault old new
    hinders front (inl memory) = absurd (subst IsGrave memory grave)
    hinders front (inr (inl large)) = absurd (subst IsGrave large grave)
    hinders front (inr (inr counts)) = (gave.given, gave.taken, inr (front, counts))

    go : (Wrote tells (wire_data text gave.given) old new × IsCopyFault fault) ⊎ (WroteFront tells (wire_data text gave.given) old new × Hinders tells old new fault) → CopyStops tells text source source' fault old new
    go (inl all) = (gave.given, gave.taken, inl all)
    go (inr (front, why)) = hinders front why

save_stops : (tells : Type 0) (writer writer' : Option (List ℕ)) (old new : TransferValue) (fault : FtpError) → SaveFails tells writer writer' old new fault → IsGrave fault → SaveStops tells writer writer' fault old new
save_stops tells writer writer' old new fault fails grave = go fails.cause
  where
    early : Appends writer writer' fails.given → EndsEarly tells old new fault → SaveStops tells writer writer' fault old new
    early all (inl memory) = absurd (subst IsGrave memory grave)
    early all (inr counts) = (fails.given, fails.gave, inr (all, counts))

    go : (Appends writer writer' fails.given × EndsEarly tells old new fault) ⊎ (AppendsFront writer writer' fails.given × StopsAt fails.given fault) → SaveStops tells writer writer' fault old new
    go (inl (all, why)) = early all why
    go (inr stops) = (fails.given, fails.gave, inl stops)

-- Whole files

module _ (opens ends : Link) (same : opens.tells → ends.tells) (coding : Coding) (called : Call) (sends_none : sends called ≡ false) (mark after former kept : Option End) (old new : SessionValue) where
  -- a session that opened a transfer, with the data connection of one
  kept_beside : (direction : Direction) (between marked : Option End) (given : SessionValue) (transfer over : TransferValue) → OpensOne opens coding called direction between marked former kept (as_seen between old) given (Ok transfer) → Kept opens.tells old (with_data (Some over.told) given)
  kept_beside direction between marked given transfer over (keeps, opened) =
      kept_to opens old opened.given (with_data (Some over.told) given) (calm_on opens old (as_seen between old) opened.given (calm_seen opens between old) (opening_results opens coding called sends_none (as_seen between old) opened.given Opened opened.plays).1) (ap (λ v. v.channel) opened.hands.new_is)

  pub upload_counts : (source source' : Option (List ℕ)) (result : Result ℕ FtpError) → Puts opens ends coding called source source' mark after former kept old new result → IfErr result (λ fault. CountsUpload opens ends coding called source source' mark former kept old new fault)
  upload_counts source source' result puts = go puts.goes_on
    where
      P : Result ℕ FtpError → Type 0
      P r = IfErr r (λ fault. CountsUpload opens ends coding called source source' mark former kept old new fault)

      stores : (s : OpensAndStores opens ends coding called source source' puts.between after former kept (as_seen puts.between old) new result) → StoresHeld ends coding source source' s.transfer after s.given new result → P result
      stores s held = ending held.copied held.copies held.ends
        where
          on : (fault : FtpError) → CopyStops ends.tells s.given.state.settings.text source source' fault s.transfer held.sent ⊎ ((count : ℕ) × Copies ends.tells s.given.state.settings.text source source' s.transfer held.sent (Ok count) × IsGivenBeside ends fault (with_data (Some held.sent.told) s.given).net new.net) → OnOpened opens coding called Upload mark former kept old (λ transfer given. GivesOn ends (λ t copied u. Copies ends.tells given.state.settings.text source source' t u copied) (CopyStops ends.tells given.state.settings.text source source') transfer given new fault)
          on fault why = record {
            transfer = s.transfer;
            marked = s.marked;
            given = s.given;
            opened = record { between = puts.between; looks = puts.looks; goes_on = s.opened };
            is = record { over = held.sent; why = why };
          }

          last : (count : ℕ) → Copies ends.tells s.given.state.settings.text source source' s.transfer held.sent (Ok count) → (ended : Result (Unit {0}) FtpError) → FinishesHeld ends coding (with_data (Some held.sent.told) s.given) new ended → P (unless_failed count ended)
          last count copied (Ok done) finishes = tt
          last count copied (Err fault) finishes =
              of_end opens _ old new fault ends same (with_data (Some held.sent.told) s.given) (kept_beside Upload puts.between s.marked s.given s.transfer held.sent s.opened) (finishes_reasons ends coding (with_data (Some held.sent.told) s.given) new fault finishes) (λ given. on fault (inr (count, copied, given)))

          ending : (copied : Result ℕ FtpError) → Copies ends.tells s.given.state.settings.text source source' s.transfer held.sent copied → EndsUpload ends coding (with_data (Some held.sent.told) s.given) new copied result → P result
          ending (Ok count) copied (ended, finishes, is) = subst P (sym is) (last count copied ended finishes)
          ending (Err fault) gave (left, is) = subst P (sym is) (of_transfer opens _ old new fault (λ grave. on fault (inl (copy_stops ends.tells s.given.state.settings.text source source' s.transfer held.sent fault gave grave))))

      unmoved : (s : OpensAndStores opens ends coding called source source' puts.between after former kept (as_seen puts.between old) new result) → Stores ends coding source source' s.transfer s.marked after s.given new result → P result
      unmoved s (inl held) = stores s held
      unmoved s (inr none) = subst P (sym none.is) (of_transfer opens _ old new faults.OutOfMemory (λ grave. absurd grave))

      go : PutsFrom opens ends coding called source source' puts.between after former kept (as_seen puts.between old) new result → P result
      go (inl s) = unmoved s s.stores
      go (inr (fault, is, opened, none)) = subst P (sym is) (of_opening opens _ old new fault (opened_reasons opens coding called sends_none Upload mark after former kept old new (Err fault) (record { between = puts.between; looks = puts.looks; goes_on = opened })))

  -- a download to a reader or a writer, which stops with an error of its own
  received_counts : {T : Type 0} (Moves : TransferValue → Result T FtpError → TransferValue → Type 0) (Stops : FtpError → TransferValue → TransferValue → Type 0) (Stays : Type 0) → ((fault : FtpError) (t u : TransferValue) → Moves t (Err fault) u → IsGrave fault → Stops fault t u) → (result : Result T FtpError) → ReceivesSeen opens ends coding called Moves Stays mark after former kept old new result → IfErr result (λ fault. CountsWhole opens (OnOpened opens coding called Download mark former kept old (λ transfer given. GivesOn ends Moves Stops transfer given new fault)) old new fault)
  received_counts {T} Moves Stops Stays stops result received = go received.goes_on
    where
      P : Result T FtpError → Type 0
      P r = IfErr r (λ fault. CountsWhole opens (OnOpened opens coding called Download mark former kept old (λ transfer given. GivesOn ends Moves Stops transfer given new fault)) old new fault)

      receives : (s : OpensAndReceives opens ends coding called Moves Stays received.between after former kept (as_seen received.between old) new result) → ReceivesHeld ends coding (Moves s.transfer) after s.given new result → P result
      receives s held = ending held.moved held.moves held.ends
        where
          on : (fault : FtpError) → Stops fault s.transfer held.over ⊎ ((value : T) × Moves s.transfer (Ok value) held.over × IsGivenBeside ends fault (with_data (Some held.over.told) s.given).net new.net) → OnOpened opens coding called Download mark former kept old (λ transfer given. GivesOn ends Moves Stops transfer given new fault)
          on fault why = record {
            transfer = s.transfer;
            marked = s.marked;
            given = s.given;
            opened = record { between = received.between; looks = received.looks; goes_on = s.opened };
            is = record { over = held.over; why = why };
          }

          last : (value : T) → Moves s.transfer (Ok value) held.over → (ended : Result (Unit {0}) FtpError) → FinishesHeld ends coding (with_data (Some held.over.told) s.given) new ended → P (unless_failed value ended)
          last value moved (Ok done) finishes = tt
          last value moved (Err fault) finishes =
              of_end opens _ old new fault ends same (with_data (Some held.over.told) s.given) (kept_beside Download received.between s.marked s.given s.transfer held.over s.opened) (finishes_reasons ends coding (with_data (Some held.over.told) s.given) new fault finishes) (λ given. on fault (inr (value, moved, given)))

          ending : (moved : Result T FtpError) → Moves s.transfer moved held.over → EndsDownload ends coding (with_data (Some held.over.told) s.given) new (Some moved) result → P result
          ending (Ok value) moved (ended, finishes, is) = subst P (sym is) (last value moved ended finishes)
          ending (Err fault) moved (ended, finishes, is) = subst P (sym is) (of_transfer opens _ old new fault (λ grave. on fault (inl (stops fault s.transfer held.over moved grave))))

      unmoved : (s : OpensAndReceives opens ends coding called Moves Stays received.between after former kept (as_seen received.between old) new result) → Receives ends coding (Moves s.transfer) Stays s.marked after s.given new result → P result
      unmoved s (inl held) = receives s held
      unmoved s (inr none) = subst P (sym none.is) (of_transfer opens _ old new faults.OutOfMemory (λ grave. absurd grave))

      go : ReceivesFrom opens ends coding called Moves Stays received.between after former kept (as_seen received.between old) new result → P result
      go (inl s) = unmoved s s.receives
      go (inr (fault, is, opened, none)) = subst P (sym is) (of_opening opens _ old new fault (opened_reasons opens coding called sends_none Download mark after former kept old new (Err fault) (record { between = received.between; looks = received.looks; goes_on = opened })))

  pub download_counts : {T : Type 0} (Reads : TransferValue → Result T FtpError → TransferValue → Type 0) (result : Result T FtpError) → Retrieves opens ends coding called Reads mark after former kept old new result → IfErr result (λ fault. CountsDownload opens ends coding called Reads mark former kept old new fault)
  download_counts {T} Reads result retrieves = received_counts {T = T} Reads (λ error t u. Reads t (Err error) u) (Unit {0}) (λ fault t u read grave. read) result retrieves

  pub saving_counts : (writer writer' : Option (List ℕ)) (result : Result ℕ FtpError) → WritesTo opens ends coding called writer writer' mark after former kept old new result → IfErr result (λ fault. CountsSaving opens ends coding called writer writer' mark former kept old new fault)
  saving_counts writer writer' result writes = received_counts (λ t saved u. Saves ends.tells writer writer' t u saved) (SaveStops ends.tells writer writer') (writer' ≡ writer) (λ fault t u saved grave. save_stops ends.tells writer writer' t u fault saved grave) result writes

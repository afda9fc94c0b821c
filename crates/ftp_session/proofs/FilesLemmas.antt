-- Lemmas on whole files, from a caller's source, or to a caller's reader or writer.
use Rattle.std.specs.Prelude.{is_none}
use Rattle.std.proofs.Common.{◌≡◌, ℕ, true, false, List, Option, Some, None, Result, Ok, inl, inr, ap, ◌∙◌, subst}
use Rattle.ftp_base.specs.declared.types.fault.FtpError.{FtpError}
use Rattle.ftp_calls.specs.declared.call.Call.{Call}
use Rattle.ftp_transfer.specs.Mark.{End}
use Rattle.ftp_dialogue.specs.Coding.{Coding}
use Rattle.ftp_dialogue.specs.Link.{Link}
use Rattle.ftp_dialogue.specs.State.{SessionValue}
use Rattle.ftp_session.specs.Files.{EndsDownload, MovesHeld, Puts, Receives, ReceivesSeen, Stores}
use Rattle.ftp_session.specs.Handed.{Opens, left_if}
use Rattle.ftp_transfer.specs.Transfer.{TransferValue}
use Rattle.ftp_transfer.specs.declared.direction.Direction.TheVariants.{Download, Upload}

module _ (link : Link) (coding : Coding) (mark after : Option End) (old middle new : SessionValue) where
  -- after its bytes were moved its data connection is there
  pub moved_held : {T : Type 0} (Moves : Result T FtpError → TransferValue → Type 0) (Stays : Type 0) (moved : Option (Result T FtpError)) → MovesHeld Moves Stays mark after old middle moved → is_none moved ≡ false → is_none middle.net.data_conn ≡ false
  moved_held Moves Stays None none some = let clash : true ≡ false = some in cc
  moved_held Moves Stays (Some moved) (over, moves, unmarked, is) some = ap (λ v. is_none v.net.data_conn) is

  -- a download was moved, and came to its end
  pub received : {T : Type 0} (Moves : Result T FtpError → TransferValue → Type 0) (Stays : Type 0) (moved : Option (Result T FtpError)) (result : Result T FtpError) → MovesHeld Moves Stays mark after old middle moved → EndsDownload link coding middle new moved result → Receives link coding Moves Stays mark after old new result
  received Moves Stays None result (stays, same, is) (left, out) = inr (record { stays = stays; mark_stays = same; left = left ∙ ap (left_if true) is; is = out })
  received {T} Moves Stays (Some moved) result (over, moves, unmarked, is) ends =
      let P : SessionValue → Type 0 = λ v. EndsDownload link coding v new (Some moved) result in
      inl (record { over = over; moved = moved; moves = moves; mark = unmarked; ends = subst P is ends })

module _ (opens ends : Link) (coding : Coding) (call : Call) (mark marked after former kept : Option End) (old given new : SessionValue) (transfer : TransferValue) where
  -- a call opened an upload, and a file went over it
  pub puts_on : (source source' : Option (List ℕ)) (result : Result ℕ FtpError) → Opens opens coding call Upload mark marked former kept old given (Ok transfer) → Stores ends coding source source' transfer marked after given new result → Puts opens ends coding call source source' mark after former kept old new result
  puts_on source source' result opened stores = record {
    between = opened.between;
    looks = opened.looks;
    goes_on = inl (record { transfer = transfer; marked = marked; given = given; opened = opened.goes_on; stores = stores });
  }

  -- a call opened a download, and its bytes went to a reader or a writer
  pub receives_on : {T : Type 0} (Moves : TransferValue → Result T FtpError → TransferValue → Type 0) (Stays : Type 0) (result : Result T FtpError) → Opens opens coding call Download mark marked former kept old given (Ok transfer) → Receives ends coding (Moves transfer) Stays marked after given new result → ReceivesSeen opens ends coding call Moves Stays mark after former kept old new result
  receives_on Moves Stays result opened receives = record {
    between = opened.between;
    looks = opened.looks;
    goes_on = inl (record { transfer = transfer; marked = marked; given = given; opened = opened.goes_on; receives = receives });
  }

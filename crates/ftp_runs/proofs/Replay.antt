-- Lemmas on the items of a script in turn.
use Rattle.std.proofs.Common.{◌≡◌, List, [], ◌∷◌, refl, ap, ◌∙◌}
use Rattle.ftp_transport.specs.declared.room.Room.{Room}
use Rattle.ftp_calls.specs.declared.call.Answer.{Answer}
use Rattle.ftp_calls.specs.declared.call.Call.{Call}
use Rattle.ftp_dialogue.specs.Coding.{Coding}
use Rattle.ftp_dialogue.specs.Play.{play_call}
use Rattle.ftp_runs.specs.Run.{replay, before, and_on, and_then}
use Rattle.ftp_runs.specs.declared.model.Item.{Item}
use Rattle.ftp_runs.specs.declared.model.Item.TheVariants.{Shown, Hidden}
use Rattle.ftp_dialogue.specs.declared.model.Played.TheVariants.{Done}
use Rattle.ftp_runs.specs.declared.model.Ran.{Ran}
use Rattle.ftp_runs.specs.declared.model.Ran.TheVariants.{Finished}
use Rattle.ftp_dialogue.specs.declared.model.PlayState.{PlayState}

module _ (coding : Coding) where
  pub replay-nil : (room : Room) (s : PlayState) → replay room coding [] s ≡ Finished [] s
  unfolding replay
  replay-nil room s = refl

  pub replay-shown : (room : Room) (call : Call) (items : List Item) (s : PlayState) → replay room coding (Shown call ∷ items) s ≡ and_then (play_call room coding call s) (λ t. replay room coding items t)
  unfolding replay
  replay-shown room call items s = refl

  pub replay-hidden : (room : Room) (call : Call) (items : List Item) (s : PlayState) → replay room coding (Hidden call ∷ items) s ≡ and_on (play_call room coding call s) (λ t. replay room coding items t)
  unfolding replay
  replay-hidden room call items s = refl

  -- a call that is done goes on with the later ones
  pub shown_on : (room : Room) (call : Call) (later : List Item) (s t : PlayState) (answer : Answer) → play_call room coding call s ≡ Done answer t → replay room coding (Shown call ∷ later) s ≡ before answer (replay room coding later t)
  shown_on room call later s t answer is =
      let next : PlayState → Ran = λ u. replay room coding later u in
      replay-shown room call later s ∙ ap (λ p. and_then p next) is

  pub hidden_on : (room : Room) (call : Call) (later : List Item) (s t : PlayState) (answer : Answer) → play_call room coding call s ≡ Done answer t → replay room coding (Hidden call ∷ later) s ≡ replay room coding later t
  hidden_on room call later s t answer is =
      let next : PlayState → Ran = λ u. replay room coding later u in
      replay-hidden room call later s ∙ ap (λ p. and_on p next) is

-- Lemmas on a refusal of EPSV that is followed by PASV.
use Rattle.std.proofs.Common.{◌≡◌, ◌<◌, ◌∙◌, ◌-◌, ℕ, true, Some, ap, sym, subst, refl, arith}
use Rattle.ftp_base.specs.declared.types.reply.Response.{Response}
use Rattle.ftp_calls.specs.declared.call.Call.{Call}
use Rattle.ftp_calls.specs.declared.exchange.Ending.TheVariants.{GivesPort}
use Rattle.ftp_calls.specs.declared.exchange.Turn.{Turn}
use Rattle.ftp_calls.specs.declared.exchange.Turn.TheVariants.{ExtendedPassive}
use Rattle.ftp_dialogue.specs.Coding.{Coding}
use Rattle.ftp_dialogue.specs.Dialogue.{asking_passive, later}
use Rattle.ftp_dialogue.specs.State.{SessionValue}
use Rattle.ftp_dialogue.specs.Steps.Moving.{Accepts, Concludes}
use Rattle.ftp_dialogue.specs.Steps.Stages.{StageOf, TurnOf, begun_at, falling_back, nodes_from, nodes_left, remaining}
use Rattle.ftp_dialogue.specs.declared.nodes.Accepted.TheVariants as accepts
use Rattle.ftp_dialogue.specs.declared.stage.Awaits.{Awaits}
use Rattle.ftp_dialogue.specs.declared.stage.Stage.{Stage}
use Rattle.ftp_dialogue.specs.declared.stage.Stage.TheVariants.{At, Hearing}
use Rattle.ftp_dialogue.specs.declared.stage.Step.TheVariants.{Next}
use Rattle.ftp_dialogue.proofs.NegotiationLemmas.{fallen_back}
use Rattle.ftp_dialogue.proofs.OpeningData.{port_turn}

module _ (call : Call) (a : Awaits) (stage' : Stage) (of : StageOf call (Hearing a)) (is : a.ending ≡ GivesPort true) (at : stage' ≡ At (falling_back a.turn)) where
  -- it was the turn of EPSV
  turn_is : (offset : ℕ) × (a.turn ≡ ExtendedPassive offset true)
  turn_is = port_turn call a.turn (of.0 ∙ ap (λ e. Some e) is)

  pub falls_stage : StageOf call stage'
  falls_stage =
      let O : Turn → Type 0 = λ turn. TurnOf call turn in
      let S : Turn → Type 0 = λ turn. StageOf call (At (falling_back turn)) in
      let opens = subst O turn_is.1 of.2 in
      subst (λ stage. StageOf call stage) (sym at) (subst S (sym turn_is.1) opens)

  pub falls_fewer : nodes_left stage' < nodes_left (Hearing a)
  falls_fewer =
      let F : Turn → Type 0 = λ turn. nodes_from (falling_back turn) < nodes_from turn - 2 in
      let L : Stage → Type 0 = λ stage. nodes_left stage < nodes_left (Hearing a) in
      let few : nodes_from (falling_back (ExtendedPassive turn_is.0 true)) < nodes_from (ExtendedPassive turn_is.0 true) - 2 = omega arith in
      subst L (sym at) (subst F (sym turn_is.1) few)

  pub falls_begun : begun_at stage' ≡ true
  falls_begun =
      let B : Turn → Type 0 = λ turn. begun_at (At (falling_back turn)) ≡ true in
      subst (λ stage. begun_at stage ≡ true) (sym at) (subst B (sym turn_is.1) refl)

  -- what is left is the turn of PASV
  pub falls_on : (coding : Coding) (reply : Response) (old new : SessionValue) → new ≡ record old { state = new.state } → Accepts coding a.ending reply old.state new.state accepts.FallsBack → Concludes coding call a reply stage' old new Next
  falls_on coding reply old new same accepted =
      let T : Turn → Type 0 = λ turn. asking_passive coding old.state (later coding call turn) ≡ remaining coding call old.state (At (falling_back turn)) in
      let there = subst T (sym turn_is.1) (fallen_back coding call turn_is.0 old.state) in
      (same ∙ ap (λ s. record old { state = s }) accepted.0, accepted.1 (later coding call a.turn) ∙ there ∙ ap (λ s. remaining coding call old.state s) (sym at))

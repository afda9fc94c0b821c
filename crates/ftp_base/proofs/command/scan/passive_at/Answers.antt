use Rattle.std.proofs.Common.{List, [], codes, arith}
use Rattle.ftp_base.specs.declared.command.scan.Span.{Span}
use Rattle.ftp_base.specs.Scan.{IsPassive}
use Rattle.ftp_base.proofs.ScanLemmas.{LacksFields-behind}
use Rattle.ftp_base.proofs.command.scan.passive_at.Goals as goal

pub returns-in_err-first : goal.returns-in_err-first
returns-in_err-first c = rw c.from_residual.ensures (λ (spans : List Span) (passive : IsPassive c.args.bytes.now c.args.place spans).
    (c.in_err-first.ensures.none (codes ",,,,)")) spans passive.fields)

pub returns-in_err-second : goal.returns-in_err-second
returns-in_err-second c = rw c.from_residual-in_err-second.ensures (λ (spans : List Span) (passive : IsPassive c.args.bytes.now c.args.place spans).
    (LacksFields-behind _ _ 44 c.in_ok-first.first (codes ",,,,)") (omega arith, omega arith) c.in_ok-first.ensures.found.0 c.in_ok-first.ensures.found.1
    (c.in_err-second.ensures.none (codes ",,,)"))) spans passive.fields)

pub returns-in_err-third : goal.returns-in_err-third
returns-in_err-third c = rw c.from_residual-in_err-third.ensures (λ (spans : List Span) (passive : IsPassive c.args.bytes.now c.args.place spans).
    (LacksFields-behind _ _ 44 c.in_ok-first.first (codes ",,,,)") (omega arith, omega arith) c.in_ok-first.ensures.found.0 c.in_ok-first.ensures.found.1
    (LacksFields-behind _ _ 44 c.in_ok-second.second (codes ",,,)") (omega arith, omega arith) c.in_ok-second.ensures.found.0 c.in_ok-second.ensures.found.1
    (c.in_err-third.ensures.none (codes ",,)")))) spans passive.fields)

pub returns-in_err-fourth : goal.returns-in_err-fourth
returns-in_err-fourth c = rw c.from_residual-in_err-fourth.ensures (λ (spans : List Span) (passive : IsPassive c.args.bytes.now c.args.place spans).
    (LacksFields-behind _ _ 44 c.in_ok-first.first (codes ",,,,)") (omega arith, omega arith) c.in_ok-first.ensures.found.0 c.in_ok-first.ensures.found.1
    (LacksFields-behind _ _ 44 c.in_ok-second.second (codes ",,,)") (omega arith, omega arith) c.in_ok-second.ensures.found.0 c.in_ok-second.ensures.found.1
    (LacksFields-behind _ _ 44 c.in_ok-third.third (codes ",,)") (omega arith, omega arith) c.in_ok-third.ensures.found.0 c.in_ok-third.ensures.found.1
    (c.in_err-fourth.ensures.none (codes ",)"))))) spans passive.fields)

pub returns-in_err-fifth : goal.returns-in_err-fifth
returns-in_err-fifth c = rw c.from_residual-in_err-fifth.ensures (λ (spans : List Span) (passive : IsPassive c.args.bytes.now c.args.place spans).
    (LacksFields-behind _ _ 44 c.in_ok-first.first (codes ",,,,)") (omega arith, omega arith) c.in_ok-first.ensures.found.0 c.in_ok-first.ensures.found.1
    (LacksFields-behind _ _ 44 c.in_ok-second.second (codes ",,,)") (omega arith, omega arith) c.in_ok-second.ensures.found.0 c.in_ok-second.ensures.found.1
    (LacksFields-behind _ _ 44 c.in_ok-third.third (codes ",,)") (omega arith, omega arith) c.in_ok-third.ensures.found.0 c.in_ok-third.ensures.found.1
    (LacksFields-behind _ _ 44 c.in_ok-fourth.fourth (codes ",)") (omega arith, omega arith) c.in_ok-fourth.ensures.found.0 c.in_ok-fourth.ensures.found.1
    (c.in_err-fifth.ensures.none (codes ")")))))) spans passive.fields)

pub returns-in_err-sixth : goal.returns-in_err-sixth
returns-in_err-sixth c = rw c.from_residual-in_err-sixth.ensures (λ (spans : List Span) (passive : IsPassive c.args.bytes.now c.args.place spans).
    (LacksFields-behind _ _ 44 c.in_ok-first.first (codes ",,,,)") (omega arith, omega arith) c.in_ok-first.ensures.found.0 c.in_ok-first.ensures.found.1
    (LacksFields-behind _ _ 44 c.in_ok-second.second (codes ",,,)") (omega arith, omega arith) c.in_ok-second.ensures.found.0 c.in_ok-second.ensures.found.1
    (LacksFields-behind _ _ 44 c.in_ok-third.third (codes ",,)") (omega arith, omega arith) c.in_ok-third.ensures.found.0 c.in_ok-third.ensures.found.1
    (LacksFields-behind _ _ 44 c.in_ok-fourth.fourth (codes ",)") (omega arith, omega arith) c.in_ok-fourth.ensures.found.0 c.in_ok-fourth.ensures.found.1
    (LacksFields-behind _ _ 44 c.in_ok-fifth.fifth (codes ")") (omega arith, omega arith) c.in_ok-fifth.ensures.found.0 c.in_ok-fifth.ensures.found.1
    (c.in_err-sixth.ensures.none [])))))) spans passive.fields)

-- A packet makes the calls of the tasks.
use Rattle.std.proofs.Common.{◌≡◌, ℕ, List, length, ap₂, subst}
use Rattle.std.specs.Prelude.{Option}
use Rattle.addr_translate.specs.Geometry.{Geometry}
use Rattle.pkt_headers.specs.declared.packets.Packet.{Packet}
use Rattle.reg_file.specs.declared.traits.Call.{Call}
use Rattle.reg_file.specs.Registers.{Contents}
use Rattle.reg_file.specs.Calls.{MakesOver}
use Rattle.pipe_core.specs.Rules.{Rules}
use Rattle.pipe_core.specs.Groups.{no_carries}
use Rattle.pipe_core.specs.Flow.{Stages, flow, stages_in, calls_over}
use Rattle.rule_txn.specs.Switch.{SwitchState, rules_for}
use Rattle.rule_txn.proofs.LookViews.{packet_over}
use Rattle.rule_txn.proofs.switch.Switch.packet.Goals as goal

pub returns-clause-over : goal.returns-clause-over
returns-clause-over g c =
    packet_over c.args.self.now c.pipe.result.now c.args.packet.now _ _ _ _ c.pipe.ensures.geometry c.pipe.ensures.hash_key c.pipe.ensures.tables
    c.pipe.ensures.groups c.pipe.ensures.whole c.step.ensures.over

acting : (rules : Rules) (state : SwitchState) (packet : Packet) (contents now : Option Contents) (list now_list : Option (List Call))
    → rules.geometry ≡ state.geometry → stages_in rules ≡ stages_in (rules_for state)
    → MakesOver (λ c. calls_over rules c packet) contents now list now_list
    → MakesOver (λ c. calls_over (rules_for state) c packet) contents now list now_list
acting rules state packet contents now list now_list geometry acts makes =
    subst (λ (wanted : Contents → List Call). MakesOver wanted contents now list now_list)
    (ap₂ (λ (stages : Stages Packet) (g : Geometry). λ (c : Contents). flow stages c packet (length g.groups) 0 no_carries) acts geometry) makes

pub returns-clause-step : goal.returns-clause-step
returns-clause-step g c =
    acting c.pipe.result.now c.args.self.now c.args.packet.now _ _ _ _ c.pipe.ensures.geometry c.pipe.ensures.acts c.step.ensures.over

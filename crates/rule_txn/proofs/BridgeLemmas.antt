-- A packet that passes the pipe joins the tasks that the registers stand for.
use Rattle.std.proofs.Common.{◌≡◌, List, ap, sym, ◌∙◌, subst}
use Rattle.std.specs.Prelude.{map, Option}
use Rattle.outside.specs.Told.{Grows}
use Rattle.outside.proofs.ToldLemmas.{told_weaker}
use Rattle.pkt_headers.specs.declared.packets.Packet.{Packet}
use Rattle.reg_file.specs.declared.traits.Call.{Call}
use Rattle.reg_file.specs.Registers.{Contents}
use Rattle.reg_file.specs.Calls.{all_made, MakesOver}
use Rattle.pipe_core.specs.Rules.{Rules, IsPipe, rules_of}
use Rattle.pipe_core.specs.Flow.{calls_over}
use Rattle.switch_model.specs.Records.{Record, Outline}
use Rattle.switch_model.specs.Sights.{all_spots, all_uses}
use Rattle.switch_model.specs.Soundness.{Sound}
use Rattle.switch_model.specs.Packets.{join, calls_of}
use Rattle.switch_model.proofs.IsolationLemmas.{join_same}
use Rattle.switch_model.proofs.CallLemmas.{packet_keeps_layout}
use Rattle.rule_txn.specs.State.{State}
use Rattle.rule_txn.specs.Switch.{SwitchState, Stands, placed_table, tables_for, groups_for}
use Rattle.rule_txn.specs.Seen.{StandsFor, PassesOver}
use Rattle.rule_txn.proofs.BridgeCalls.{RulesStand, packet_calls}

-- what a switch shows, of its tasks and what stands in its arrays
abbrev pub shown_by : List Outline → State → SwitchState
shown_by all state = record { geometry = state.geometry; hash_key = state.hash_key; outlines = all }

-- the rules of a switch's pipe
abbrev pub rules_in : State → Rules
rules_in state = rules_of state.geometry state.hash_key state.tables state.groups

rules_stand : (all : List Outline) (state : State) (records : List Record) (contents : Contents) → Stands all state
    → StandsFor (shown_by all state) records contents → RulesStand (rules_in state) records
rules_stand all state records contents stand for = record {
  sound = for.sound;
  tables = subst (λ os. map placed_table state.tables ≡ tables_for state.geometry (all_spots os)) for.same stand.tables;
  groups = subst (λ os. state.groups ≡ groups_for state.geometry (all_uses state.geometry os)) for.same stand.groups;
}

-- the registers stand for the tasks with the packet
pub joins : (state : SwitchState) (records : List Record) (packet : Packet) (contents : Contents) → StandsFor state records contents
    → StandsFor state (join packet records) (all_made contents (calls_of state.geometry state.hash_key packet records))
joins state records packet contents for = record {
  sound = subst (Sound state.geometry) (sym (join_same packet records)) for.sound;
  same = for.same ∙ sym (join_same packet records);
  laid = packet_keeps_layout state.geometry state.hash_key records packet contents for.sound for.laid;
}

-- after a step of the pipe
pub packet_stands : (all : List Outline) (state : State) (packet : Packet) (contents new_contents : Option Contents) (list new_list : Option (List Call))
    → IsPipe (rules_in state) → Stands all state → MakesOver (λ c. calls_over (rules_in state) c packet) contents new_contents list new_list
    → PassesOver (shown_by all state) packet contents new_contents list new_list
packet_stands all state packet contents new_contents list new_list pipe stand over records =
    told_weaker contents new_contents (λ old new made for.
    let calls : over.calls ≡ calls_of state.geometry state.hash_key packet records =
    made.0 ∙ packet_calls (rules_in state) records packet old pipe (rules_stand all state records old stand for) for.laid in
    record {
      stands = subst (StandsFor (shown_by all state) (join packet records)) (sym (made.1 ∙ ap (all_made old) calls)) (joins (shown_by all state) records packet old for);
      calls = subst (λ cs. Grows list cs new_list) calls over.joined;
    })
    over.told

-- One more effect, and whom it creates.
use Rattle.std.proofs.Common.{◌≡◌, ◌∙◌, ap, append-nil, refl, ℕ, List, [], ◌∷◌, ◌++◌}
use Rattle.std.proofs.lemmas.Grind.{flat_map-append}
use Rattle.std.proofs.lemmas.List.{map-append}
use Rattle.port_model.specs.declared.inbox.entry.Fuse.{Fuse}
use Rattle.port_model.specs.declared.values.item.Item.{Item}
use Rattle.port_model.specs.declared.values.timer_key.TimerKey.{TimerKey}
use Rattle.port_model.specs.declared.values.value.Value.{Value}
use Rattle.run_semantics.specs.Effect.{Arm, Effect, Send}
use Rattle.sdl_system.specs.declared.route.Target.{Target}
use Rattle.threads_instance.specs.Doings.{children_of, children_of_one, effect_of, effects_in}
use Rattle.threads_instance.specs.declared.doings.Child.{Child}
use Rattle.threads_instance.specs.declared.effect_list.Doing.{Doing}
use Rattle.threads_instance.specs.declared.effect_list.Doing.TheVariants.{Armed}

pub effects_more : (done more : List (Doing × List Value)) (doing : Doing) (values : List Value)
    → more ≡ done ++ (doing, values) ∷ [] → effects_in more ≡ effects_in done ++ effect_of doing values ∷ []
effects_more done more doing values is =
    ap effects_in is ∙ map-append (λ (one : Doing × List Value). effect_of one.0 one.1) done ((doing, values) ∷ [])

-- a timer was set, by what is noted of its fuse
pub armed_more : (done more : List (Doing × List Value)) (fuse : Fuse) (pid : ℕ) (key : TimerKey) (arm due : ℕ)
    → pid ≡ fuse.pid → key ≡ fuse.key → arm ≡ fuse.arm → due ≡ fuse.due
    → more ≡ done ++ (Armed pid key.name arm due, key.values) ∷ [] → effects_in more ≡ effects_in done ++ Arm fuse ∷ []
armed_more done more fuse pid key arm due pid_is key_is arm_is due_is is =
    effects_more done more (Armed pid key.name arm due) key.values is
    ∙ ap (λ (f : Fuse). effects_in done ++ Arm f ∷ [])
    (λ k. record { pid = pid_is k; key = key_is k; arm = arm_is k; due = due_is k })

pub children_more : (effects : List Effect) (effect : Effect)
    → children_of (effects ++ effect ∷ []) ≡ children_of effects ++ children_of_one effect
children_more effects effect =
    flat_map-append children_of_one effects (effect ∷ [])
    ∙ ap (λ (l : List Child). children_of effects ++ l) (append-nil (children_of_one effect))

-- who does that creates nobody
pub children_same : (effects more : List Effect) (effect : Effect) → children_of_one effect ≡ []
    → more ≡ effects ++ effect ∷ [] → children_of more ≡ children_of effects
children_same effects more effect none is =
    ap children_of is ∙ children_more effects effect
    ∙ ap (λ (l : List Child). children_of effects ++ l) none ∙ append-nil (children_of effects)

pub sent_same : (effects more : List Effect) (target : Target) (item : Item)
    → more ≡ effects ++ Send target item ∷ [] → children_of more ≡ children_of effects
sent_same effects more target item is = children_same effects more (Send target item) refl is

pub armed_same : (effects more : List Effect) (fuse : Fuse) → more ≡ effects ++ Arm fuse ∷ []
    → children_of more ≡ children_of effects
armed_same effects more fuse is = children_same effects more (Arm fuse) refl is

-- The kinds of nodes and the fewest and most children that each allows: document 01, "The tree and its cells".
use Rattle.std.specs.Prelude.{ℕ, Bool, cond, ◌||◌, ◌==◌}
use Rattle.rules.specs.declared.behavior.Kind.{Kind}
use Rattle.rules.specs.declared.behavior.Kind.TheVariants.{Wait, WaitForever, Action, Invert, AlwaysSucceed, Timeout, Select, If, Sequence}
use Rattle.rules.specs.declared.behavior.Kind.TheVariants.{MemorylessSequence, MemorylessSelector, While, WhileAll, WhenAll, WhenAny, After, Race}

-- the number of each kind
abbrev pub code : Kind → ℕ
code Wait = 0
code WaitForever = 1
code Action = 2
code Invert = 3
code AlwaysSucceed = 4
code Timeout = 5
code Select = 6
code If = 7
code Sequence = 8
code MemorylessSequence = 9
code MemorylessSelector = 10
code While = 11
code WhileAll = 12
code WhenAll = 13
code WhenAny = 14
code After = 15
code Race = 16

-- the kind of each number from 0 to 16; a larger one, which every table check refuses, is taken for the last
unfoldable pub kind_of : ℕ → Kind
kind_of k =
    cond (k == 0) Wait
    (cond (k == 1) WaitForever
    (cond (k == 2) Action
    (cond (k == 3) Invert
    (cond (k == 4) AlwaysSucceed
    (cond (k == 5) Timeout
    (cond (k == 6) Select
    (cond (k == 7) If
    (cond (k == 8) Sequence
    (cond (k == 9) MemorylessSequence
    (cond (k == 10) MemorylessSelector
    (cond (k == 11) While
    (cond (k == 12) WhileAll
    (cond (k == 13) WhenAll
    (cond (k == 14) WhenAny
    (cond (k == 15) After Race)))))))))))))))

-- "or more": a node's number has 16 bits
abbrev pub many : ℕ
many = 65535

abbrev pub fewest : Kind → ℕ
fewest Wait = 0
fewest WaitForever = 0
fewest Action = 0
fewest Invert = 1
fewest AlwaysSucceed = 1
fewest Timeout = 1
fewest Select = 1
fewest If = 3
fewest Sequence = 1
fewest MemorylessSequence = 0
fewest MemorylessSelector = 0
fewest While = 2
fewest WhileAll = 2
fewest WhenAll = 0
fewest WhenAny = 0
fewest After = 0
fewest Race = 0

abbrev pub most : Kind → ℕ
most Wait = 0
most WaitForever = 0
most Action = 0
most Invert = 1
most AlwaysSucceed = 1
most Timeout = 1
most Select = many
most If = 3
most Sequence = many
most MemorylessSequence = many
most MemorylessSelector = many
most While = many
most WhileAll = many
most WhenAll = many
most WhenAny = many
most After = many
most Race = many

abbrev pub is : Kind → Kind → Bool
is a b = code a == code b

-- an Action's n is its number and no count of children
abbrev pub children : Kind → ℕ → ℕ
children k n = cond (is k Action) 0 n

-- a limit and an elapsed time: in Wait and Timeout
abbrev pub timed : Kind → Bool
timed k = is k Wait || is k Timeout

-- a mark: in a child of WhenAll and WhenAny
abbrev pub marks_children : Kind → Bool
marks_children k = is k WhenAll || is k WhenAny

-- `memory` off: Sequence to MemorylessSequence, Select to MemorylessSelector; on: back
unfoldable pub memory : Bool → Kind → Kind
memory on k = cond on
    (cond (is k MemorylessSequence) Sequence (cond (is k MemorylessSelector) Select k))
    (cond (is k Sequence) MemorylessSequence (cond (is k Select) MemorylessSelector k))

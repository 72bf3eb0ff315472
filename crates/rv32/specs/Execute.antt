-- What each instruction needs of memory, and what it does; what a new core is, and what taking an interrupt does to one.
-- Assumes nothing: these are definitions.
use Rattle.std.specs.Prelude.{ℕ, ◌*◌, ◌/◌, ◌%◌, Bool, true, false, cond, not, ◌&&◌, replicate, Some, None, Option, ◌==◌, bit_and, bit_or, bit_xor, nat_lt, slice_index, slice_set}
use Rattle.words.specs.Word.{extend, byte_at, half_at, with_byte, with_half}
use Rattle.rv32.specs.Arithmetic.{add, sub, sll, srl, sra, signed_below, bit}
use Rattle.rv32.specs.Decode.{decode}
use Rattle.rv32.specs.Did.{Did, goes, stores, says, stops}
use Rattle.rv32.specs.declared.core_state.Core.{Core}
use Rattle.rv32.specs.declared.core_state.Effect.{Effect}
use Rattle.rv32.specs.declared.core_state.Effect.TheVariants.{Goes, Stores, Says, Stops}
use Rattle.rv32.specs.declared.core_state.Need.{Need}
use Rattle.rv32.specs.declared.core_state.Need.TheVariants.{Nothing, Read, Write}
use Rattle.rv32.specs.declared.instruction.Instruction.{Instruction}
use Rattle.rv32.specs.declared.instruction.Instruction.TheVariants.{Lui, Auipc, Jal, Jalr, Branch, Load, Store, OpImm, Op, Amo, Fence, Ecall, Ebreak, Mret, Illegal}
use Rattle.rv32.specs.declared.instruction.BranchKind.{BranchKind}
use Rattle.rv32.specs.declared.instruction.BranchKind.TheVariants.{Beq, Bne, Blt, Bge, Bltu, Bgeu}
use Rattle.rv32.specs.declared.instruction.LoadKind.{LoadKind}
use Rattle.rv32.specs.declared.instruction.LoadKind.TheVariants.{Lb, Lh, Lw, Lbu, Lhu}
use Rattle.rv32.specs.declared.instruction.StoreKind.{StoreKind}
use Rattle.rv32.specs.declared.instruction.StoreKind.TheVariants.{Sb, Sh, Sw}
use Rattle.rv32.specs.declared.instruction.Operation.{Operation}
use Rattle.rv32.specs.declared.instruction.Operation.TheVariants.{Add, Sub, Sll, Slt, Sltu, Xor, Srl, Sra, Or, And}
use Rattle.rv32.specs.declared.instruction.AmoKind.{AmoKind}
use Rattle.rv32.specs.declared.instruction.AmoKind.TheVariants.{AmoAdd, AmoSwap}

-- register 0 is 0, and stays 0
abbrev pub register : Core → ℕ → ℕ
register c n = cond (n == 0) 0 (slice_index c.registers n)

abbrev pub with_register : Core → ℕ → ℕ → Core
with_register c n x = cond (n == 0) c (record { pc = c.pc; registers = slice_set c.registers n x; epc = c.epc; lets = c.lets })

-- the core with another pc, and with that of the next instruction
abbrev pub at : Core → ℕ → Core
at c a = record { pc = a; registers = c.registers; epc = c.epc; lets = c.lets }

abbrev pub next : Core → Core
next c = at c (add c.pc 4)

abbrev pub with_lets : Core → Bool → Core
with_lets c b = record { pc = c.pc; registers = c.registers; epc = c.epc; lets = b }

-- a new core: its number is in x10, and interrupts are not let
abbrev pub start : ℕ → Core
start k = record { pc = 0; registers = slice_set (replicate 32 0) 10 k; epc = 0; lets = false }

-- taking an interrupt: the old pc is kept, and interrupts are not let any more
abbrev pub enters : Core → Core
enters c = record { pc = 0x40; registers = c.registers; epc = c.pc; lets = false }

-- MRET: back to where the last interrupt came from, and interrupts are let again
abbrev pub returns : Core → Core
returns c = record { pc = c.epc; registers = c.registers; epc = c.epc; lets = true }

-- whether an interrupt may be taken
abbrev pub lets : Core → Bool
lets c = c.lets

abbrev pub operate : Operation → ℕ → ℕ → ℕ
operate Add x y = add x y
operate Sub x y = sub x y
operate Sll x y = sll x y
operate Slt x y = bit (signed_below x y)
operate Sltu x y = bit (nat_lt x y)
operate Xor x y = bit_xor x y
operate Srl x y = srl x y
operate Sra x y = sra x y
operate Or x y = bit_or x y
operate And x y = bit_and x y

-- whether a branch is taken
abbrev pub taken : BranchKind → ℕ → ℕ → Bool
taken Beq x y = x == y
taken Bne x y = not (x == y)
taken Blt x y = signed_below x y
taken Bge x y = not (signed_below x y)
taken Bltu x y = nat_lt x y
taken Bgeu x y = not (nat_lt x y)

-- how many bytes are loaded, or stored
abbrev pub load_size : LoadKind → ℕ
load_size Lb = 1
load_size Lh = 2
load_size Lw = 4
load_size Lbu = 1
load_size Lhu = 2

abbrev pub store_size : StoreKind → ℕ
store_size Sb = 1
store_size Sh = 2
store_size Sw = 4

-- what a load at an address makes of the word there
abbrev pub loaded : LoadKind → ℕ → ℕ → ℕ
loaded Lb address word = extend 8 (byte_at word address)
loaded Lh address word = extend 16 (half_at word address)
loaded Lw address word = word
loaded Lbu address word = byte_at word address
loaded Lhu address word = half_at word address

-- what a store of x at an address makes of the word there
abbrev pub stored : StoreKind → ℕ → ℕ → ℕ → ℕ
stored Sb address word x = with_byte word address x
stored Sh address word x = with_half word address x
stored Sw address word x = x

-- what an atomic operation stores in the place of the word that it loads
abbrev pub combined : AmoKind → ℕ → ℕ → ℕ
combined AmoAdd word x = add word x
combined AmoSwap word x = x

-- whether `size` bytes at an address lie in a memory of so many lines of 32 bytes, at a multiple of their size
abbrev pub reaches : ℕ → ℕ → ℕ → Bool
reaches lines size address = nat_lt (address / 32) lines && address % size == 0

-- the devices of a core: a word stored here is said; 1 or 0 stored here lets interrupts or not; a load gives where the last interrupt came from
abbrev pub say_address : ℕ
say_address = 0x40000000

abbrev pub let_address : ℕ
let_address = 0x40000004

abbrev pub epc_address : ℕ
epc_address = 0x40000008

-- a load: of memory, or of the one device that is read, by whole words; any other stops the core
abbrev pub loads : ℕ → Core → LoadKind → ℕ → ℕ → ℕ → Effect
loads lines c kind d address word =
    cond (reaches lines (load_size kind) address) (Goes (next (with_register c d (loaded kind address word))))
    (cond (load_size kind == 4 && address == epc_address) (Goes (next (with_register c d c.epc))) Stops)

-- a word stored to a device
abbrev pub tells : Core → ℕ → ℕ → Effect
tells c address x =
    cond (address == say_address) (Says x (next c))
    (cond (address == let_address) (cond (x == 0) (Goes (with_lets (next c) false)) (cond (x == 1) (Goes (with_lets (next c) true)) Stops)) Stops)

-- a store: to memory, or of a whole word to a device; any other stops the core
abbrev pub puts : ℕ → Core → StoreKind → ℕ → ℕ → ℕ → Effect
puts lines c kind address x word =
    cond (reaches lines (store_size kind) address) (Stores (address / 4) (stored kind address word x) (next c))
    (cond (store_size kind == 4) (tells c address x) Stops)

-- an atomic operation: the word goes to rd, and what is combined takes its place in memory
abbrev pub swaps : ℕ → Core → AmoKind → ℕ → ℕ → ℕ → ℕ → Effect
swaps lines c kind d address x word =
    cond (reaches lines 4 address) (Stores (address / 4) (combined kind word x) (next (with_register c d word))) Stops

-- what an instruction does, where `word` is memory's word at its address
abbrev pub execute_rule : ℕ → Core → Instruction → ℕ → Effect
execute_rule lines c (Lui d value) word = Goes (next (with_register c d value))
execute_rule lines c (Auipc d offset) word = Goes (next (with_register c d (add c.pc offset)))
execute_rule lines c (Jal d offset) word = Goes (at (with_register c d (add c.pc 4)) (add c.pc offset))
execute_rule lines c (Jalr d s offset) word = Goes (at (with_register c d (add c.pc 4)) (add (register c s) offset / 2 * 2))
execute_rule lines c (Branch kind s t offset) word = Goes (at c (add c.pc (cond (taken kind (register c s) (register c t)) offset 4)))
execute_rule lines c (Load kind d s offset) word = loads lines c kind d (add (register c s) offset) word
execute_rule lines c (Store kind s t offset) word = puts lines c kind (add (register c s) offset) (register c t) word
execute_rule lines c (OpImm o d s value) word = Goes (next (with_register c d (operate o (register c s) value)))
execute_rule lines c (Op o d s t) word = Goes (next (with_register c d (operate o (register c s) (register c t))))
execute_rule lines c (Amo kind d s t) word = swaps lines c kind d (register c s) (register c t) word
execute_rule lines c Fence word = Goes (next c)
execute_rule lines c Ecall word = Stops
execute_rule lines c Ebreak word = Stops
execute_rule lines c Mret word = Goes (returns c)
execute_rule lines c Illegal word = Stops

-- the address of an instruction's data; one without data has address 0, and looks at nothing there
abbrev pub address : Core → Instruction → ℕ
address c (Lui d value) = 0
address c (Auipc d offset) = 0
address c (Jal d offset) = 0
address c (Jalr d s offset) = 0
address c (Branch kind s t offset) = 0
address c (Load kind d s offset) = add (register c s) offset
address c (Store kind s t offset) = add (register c s) offset
address c (OpImm o d s value) = 0
address c (Op o d s t) = 0
address c (Amo kind d s t) = register c s
address c Fence = 0
address c Ecall = 0
address c Ebreak = 0
address c Mret = 0
address c Illegal = 0

-- the word of memory that an instruction needs, to read or to write
abbrev pub need_rule : ℕ → Core → Instruction → Need
need_rule lines c (Lui d value) = Nothing
need_rule lines c (Auipc d offset) = Nothing
need_rule lines c (Jal d offset) = Nothing
need_rule lines c (Jalr d s offset) = Nothing
need_rule lines c (Branch kind s t offset) = Nothing
need_rule lines c (Load kind d s offset) = cond (reaches lines (load_size kind) (add (register c s) offset)) (Read (add (register c s) offset / 4)) Nothing
need_rule lines c (Store kind s t offset) = cond (reaches lines (store_size kind) (add (register c s) offset)) (Write (add (register c s) offset / 4)) Nothing
need_rule lines c (OpImm o d s value) = Nothing
need_rule lines c (Op o d s t) = Nothing
need_rule lines c (Amo kind d s t) = cond (reaches lines 4 (register c s)) (Write (register c s / 4)) Nothing
need_rule lines c Fence = Nothing
need_rule lines c Ecall = Nothing
need_rule lines c Ebreak = Nothing
need_rule lines c Mret = Nothing
need_rule lines c Illegal = Nothing

-- the word that an instruction is fetched from, if pc is an address of one
abbrev pub fetch_rule : ℕ → Core → Option ℕ
fetch_rule lines c = cond (reaches lines 4 c.pc) (Some (c.pc / 4)) None

-- the same, shut: what other crates cite
unfoldable pub fetch : ℕ → Core → Option ℕ
fetch lines c = fetch_rule lines c

unfoldable pub execute : ℕ → Core → Instruction → ℕ → Effect
execute lines c i word = execute_rule lines c i word

unfoldable pub need : ℕ → Core → Instruction → Need
need lines c i = need_rule lines c i

-- an effect, for cores of any kind
abbrev pub did : Effect → Did Core
did (Goes c) = goes c
did (Stores a x c) = stores a x c
did (Says x c) = says x c
did Stops = stops

-- what the instruction that `word` is does, where x is its data
unfoldable pub does : ℕ → Core → ℕ → ℕ → Did Core
does lines c word x = cond (reaches lines 4 c.pc) (did (execute lines c (decode word) x)) stops

-- ONE INSTRUCTION: `read` gives memory's words by number. It is fetched from pc, and its data is the word at its address
unfoldable pub one : ℕ → Core → (ℕ → ℕ) → Did Core
one lines c read = let word = read (c.pc / 4) in does lines c word (read (address c (decode word) / 4))

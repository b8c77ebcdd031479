-- the machine, its ways on, bits, ends and leaves of charts, and what lies in their rows
pub mod MachineInTurn
pub mod WaysOn
pub mod BitsInTurn
pub mod EndsInTurn
pub mod LeavesInTurn
pub mod LaidRows

mod WaitingLaw
